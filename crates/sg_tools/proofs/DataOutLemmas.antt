-- The requests of tools whose options give data-out.
use Rattle.std.proofs.Common.{◌≡◌, ℕ, ◌^◌, ◌-◌, List, Bool, true, false, Bor, Option, Some, None, codes}
use Rattle.std.proofs.Common.{Err, option_map, refl}
use Rattle.std.specs.Prelude.{is_some}
use Rattle.clap.specs.Words.{Row, Text}
use Rattle.sg_tools.specs.GivenOptions.{is_set, text_of}
use Rattle.sg_tools.specs.OptionTexts.{number_or}
use Rattle.sg_tools.specs.DataOutOptions.{block_or_nothing, byte_check_or, data_or, excludes}
use Rattle.sg_tools.specs.DataOutOptions.{filled_block, has_data, has_two_sources, is_none_given}
use Rattle.sg_tools.specs.Requests.{Request, sg_verify, sg_write_same, verify, write_block}
use Rattle.sg_tools.specs.declared.tool_fault.ToolFault.TheVariants.{Exclusive}

-- a text is there as its borrowed text is
pub some-text : (text : Option (Bor (List ℕ))) → is_some text ≡ is_some (option_map (λ t. t.now) text)
some-text None = refl
some-text (Some text) = refl

pub verify_is : (rows : List Row) (word lba count check : Option Text) (zeros ones long : Bool)
    (r : Request) → text_of (codes "in") rows ≡ word → text_of (codes "lba") rows ≡ lba
    → text_of (codes "count") rows ≡ count → text_of (codes "ebytchk") rows ≡ check
    → is_set (codes "0") rows ≡ zeros → is_set (codes "ff") rows ≡ ones
    → is_set (codes "16") rows ≡ long → has_two_sources (is_some word) zeros ones ≡ false
    → r ≡ verify long (byte_check_or (has_data (is_some word) zeros ones) check)
    (data_or (block_or_nothing zeros ones) word) lba count → r ≡ sg_verify rows
verify_is rows word lba count check zeros ones long r at_word at_lba at_count at_check at_zeros
    at_ones at_long one is =
    rw (at_word, at_lba, at_count, at_check, at_zeros, at_ones, at_long, one) is

-- what the options of sg_write_same say
pub record Says (rows : List Row) (word lba count : Option Text) (short long ones ndob : Bool) : Type 0 where
  pub at_word : text_of (codes "in") rows ≡ word
  pub at_lba : text_of (codes "lba") rows ≡ lba
  pub at_count : text_of (codes "num") rows ≡ count
  pub at_short : is_set (codes "10") rows ≡ short
  pub at_long : is_set (codes "16") rows ≡ long
  pub at_ones : is_set (codes "ff") rows ≡ ones
  pub at_ndob : is_set (codes "ndob") rows ≡ ndob
  pub given : is_none_given (is_some word) (is_some lba) (is_some count) ≡ false

pub write_is : (rows : List Row) (word lba count : Option Text) (short long anchor unmap ones ndob : Bool)
    (r : Request) → Says rows word lba count short long ones ndob
    → is_set (codes "anchor") rows ≡ anchor → is_set (codes "unmap") rows ≡ unmap
    → excludes (is_some word) ones ndob short long ≡ false
    → r ≡ write_block short long anchor unmap ndob (number_or 0 (2 ^ 64 - 1) lba)
    (number_or 1 (2 ^ 32 - 1) count) (data_or (filled_block ones ndob) word) → r ≡ sg_write_same rows
write_is rows word lba count short long anchor unmap ones ndob r s at_anchor at_unmap both is =
    rw (
      s.at_word,
      s.at_lba,
      s.at_count,
      s.at_short,
      s.at_long,
      at_anchor,
      at_unmap,
      s.at_ones,
      s.at_ndob,
      s.given,
      both,
    ) is

pub write_excluded : (rows : List Row) (word lba count : Option Text) (short long ones ndob : Bool)
    → Says rows word lba count short long ones ndob
    → excludes (is_some word) ones ndob short long ≡ true → Err Exclusive ≡ sg_write_same rows
write_excluded rows word lba count short long ones ndob s both =
    rw (
      s.at_word,
      s.at_lba,
      s.at_count,
      s.at_short,
      s.at_long,
      s.at_ones,
      s.at_ndob,
      s.given,
      both,
    ) refl
