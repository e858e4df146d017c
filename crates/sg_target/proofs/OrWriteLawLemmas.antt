-- An ORWRITE sets the bits of its data-out.
use Rattle.std.proofs.Common.{◌≡◌, ◌⊎◌, inl, inr, ◌≤◌, ◌<◌, ℕ, ◌+◌, ◌-◌, ◌*◌, ◌==◌, List, length}
use Rattle.std.proofs.Common.{drop, max}
use Rattle.std.proofs.Common.{get_or, bit_or, Bool, true, false, cond, Option, Some, None, Ok}
use Rattle.std.proofs.Common.{refl, sym, ap, ap₂, ◌∙◌, subst, arith, length-take, length-drop}
use Rattle.std.proofs.lemmas.Bool.Decides.{nat_tests}
use Rattle.std.proofs.lemmas.List.{get_or_past}
use Rattle.std.proofs.lemmas.Bool.{cases_lt}
use Rattle.std.proofs.lemmas.Nat.Bits.{bit_at_or, bit_at-lt}
use Rattle.std.specs.FinMap.{get}
use Rattle.std.specs.Int.{bit_at}
use Rattle.std.specs.Prelude.{◌||◌}
use Rattle.sg_wire.specs.declared.command.Command.{Command}
use Rattle.sg_wire.specs.declared.command.Command.TheVariants as command
use Rattle.sg_wire.specs.declared.extent.Extent.{Extent}
use Rattle.sg_store.specs.Disk.{Contents, Mapping, block, block_at, data_in, lies_in, replaced}
use Rattle.sg_store.specs.Disk.Mapping.{Data}
use Rattle.sg_store.specs.Laws.{RemappingTakesWhatIsNeeded}
use Rattle.sg_store.specs.LbaStatus.{status_in}
use Rattle.sg_target.specs.BlockCommands.{blocks_out, bytes_of, or_bytes, or_writing}
use Rattle.sg_target.specs.BlockCommands.{ored_block}
use Rattle.sg_target.specs.CommandLaws.{OrWritesSetTheBitsOfTheirData, SetsBits, SetsTheBitsOfItsBlocks}
use Rattle.sg_target.specs.CommandLaws.{blocks_to_or, is_set}
use Rattle.sg_target.specs.Config.{ConfigFields}
use Rattle.sg_target.specs.DataOut.{moved}
use Rattle.sg_target.specs.Demands.{demands, extent, too_long}
use Rattle.sg_target.specs.Refusal.{first_some}
use Rattle.sg_target.specs.State.{config_of}
use Rattle.sg_target.specs.Step.{Step, step}
use Rattle.sg_target.specs.declared.operation.Operation.{Operation}
use Rattle.sg_target.specs.declared.operation.Operation.TheVariants as operation
use Rattle.sg_target.proofs.CommandLemmas.{below, by-operation, done-well, first-block}
use Rattle.sg_target.proofs.LiftLemmas.{request_checks}
use Rattle.sg_target.proofs.MovedLemmas.{its-moved, moved-whole}
use Rattle.sg_target.proofs.OrWriteLemmas.{get_or-or, length-block, length-or}

-- ---- what it asks for

or-asked : (config : ConfigFields) (c : Command) (data_out : List ℕ) (o : Operation) (out : Extent)
    → (demands config c data_out).operation ≡ Ok o → blocks_to_or (Ok c) ≡ Some out
    → operation.OrWrite (blocks_out (moved config out data_out) data_out) ≡ o
or-asked config (command.OrWrite16 c) data_out o out e h =
    let same : extent c.lba c.count ≡ out = cc in
    its-moved config data_out operation.OrWrite (extent c.lba c.count) out o same e
or-asked config _ data_out o out e h = cc

or-long : (config : ConfigFields) (c : Command) (data_out : List ℕ) (out : Extent)
    → first_some (request_checks (demands config c data_out) data_out) ≡ None
    → blocks_to_or (Ok c) ≡ Some out → bytes_of (moved config out data_out) ≤ length data_out
or-long config (command.OrWrite16 c) data_out out e h =
    let same : extent c.lba c.count ≡ out = cc in
    subst (λ (x : Extent). bytes_of (moved config x data_out) ≤ length data_out) same
    (moved-whole config (extent c.lba c.count) (too_long config c.count 10) data_out e)
or-long config _ data_out out e h = cc

-- ---- bits

bit-of-both : (a b : ℕ) → a < 2 → b < 2 → (max a b == 1) ≡ (a == 1 || b == 1)
bit-of-both a b x y = grind (arith, nat_tests)

set-or : (a b bit : ℕ) → (bit_at (bit_or a b) bit == 1) ≡ (bit_at a bit == 1 || bit_at b bit == 1)
set-or a b bit =
    ap (λ x. x == 1) (bit_at_or a b bit)
    ∙ bit-of-both (bit_at a bit) (bit_at b bit) (bit_at-lt a bit) (bit_at-lt b bit)

or-true : (a b : Bool) → a ≡ true → (a || b) ≡ true
or-true true b e = refl
or-true false b e = cc

byte-of-both : (n : ℕ) (old given : List ℕ) → length old ≡ n → length given ≡ n → (k : ℕ)
    → get_or (or_bytes old given) k 0 ≡ bit_or (get_or old k 0) (get_or given k 0)
byte-of-both n old given o g k = by (cases_lt k n)
  where
    by : (k < n) ⊎ (n ≤ k) → get_or (or_bytes old given) k 0 ≡ bit_or (get_or old k 0) (get_or given k 0)
    by (inl lt) = get_or-or old given k (omega (arith, o)) (omega (arith, g))
    by (inr ge) =
        get_or_past (or_bytes old given) k 0 (omega (arith, length-or old given, o, g))
        ∙ sym (ap₂ bit_or (get_or_past old k 0 (omega (arith, o))) (get_or_past given k 0 (omega (arith, g))))

sets-bits : (old given left : List ℕ) → length old ≡ 512 → length given ≡ 512
    → left ≡ or_bytes old given → SetsBits old given left
sets-bits old given left o g e =
    let bits : (byte bit : ℕ) → is_set left byte bit ≡ (is_set old byte bit || is_set given byte bit) =
    λ byte bit.
    ap (λ (bytes : List ℕ). is_set bytes byte bit) e
    ∙ (ap (λ (x : ℕ). bit_at x bit == 1) (byte-of-both 512 old given o g byte)
    ∙ set-or (get_or old byte 0) (get_or given byte 0) bit) in
    record {
      length = ap length e ∙ omega (arith, length-or old given, o, g);
      bits = bits;
      none_cleared =
          λ byte bit was.
          bits byte bit ∙ or-true (is_set old byte bit) (is_set given byte bit) was;
    }

-- ---- blocks

module _ (law : RemappingTakesWhatIsNeeded) (contents : Contents) (lba count : ℕ) (f : ℕ → List ℕ) where
  through : {X : Type 0} (read : Option Mapping → X) (b : Bool) (x y : Option Mapping)
      → read (cond b x y) ≡ cond b (read x) (read y)
  through read true x y = refl
  through read false x y = refl

  pub replaced-at : {X : Type 0} (read : Option Mapping → X) (address : ℕ)
      → read (get (replaced contents lba count f) address)
      ≡ cond (lies_in lba count address) (read (Some (Data (f (address - lba)))))
      (read (get contents address))
  replaced-at read address =
      ap read (law.found contents lba count (λ index. Data (f index)) address)
      ∙ through read (lies_in lba count address) (Some (Data (f (address - lba)))) (get contents address)

whole-at : (data_out : List ℕ) (count index : ℕ) → 512 * count ≤ length data_out → index < count
    → length (block_at data_out index) ≡ 512
whole-at data_out count index long below =
    omega (arith, length-take 512 (drop (512 * index) data_out), length-drop (512 * index) data_out)

inside : (lba count address : ℕ) → lies_in lba count address ≡ true → lba + (address - lba) ≡ address
inside lba count address h = grind (arith, nat_tests)

-- the block of an address, and that of data-out
ored-at : (contents : Contents) (out : Extent) (data_out : List ℕ) (address : ℕ)
    → lies_in out.lba out.count address ≡ true
    → ored_block contents (blocks_out out data_out) (address - out.lba)
    ≡ or_bytes (block contents address) (block_at data_out (address - out.lba))
ored-at contents out data_out address h =
    ap₂ (λ (a : ℕ) (given : List ℕ). or_bytes (block contents a) given)
    (inside out.lba out.count address h)
    (first-block data_out out.count (address - out.lba) (below out.lba out.count address h))

same-inside : (b : Bool) (now given old : List ℕ) → now ≡ cond b given old → now ≡ cond b now old
same-inside true now given old e = refl
same-inside false now given old e = e

if-inside : (b : Bool) (now given old : List ℕ) → b ≡ true → now ≡ cond b given old → now ≡ given
if-inside true now given old h e = e
if-inside false now given old h e = cc

pub or-writes-set : RemappingTakesWhatIsNeeded → OrWritesSetTheBitsOfTheirData
or-writes-set law state i cdb data_out named limits is good =
    let d = done-well state i cdb data_out good in
    let contents = state.disk.contents in
    let out = moved (config_of state) named data_out in
    let fields = blocks_out out data_out in
    let f = ored_block contents fields in
    let names : blocks_to_or (Ok d.asked.command) ≡ Some named =
    ap blocks_to_or (sym d.asked.command_is) ∙ is in
    let known = or-asked (config_of state) d.asked.command data_out d.operation named
    d.asked.operation_is names in
    let long = or-long (config_of state) d.asked.command data_out named d.asked.accepted names in
    by-operation
    (λ (done : Step). SetsTheBitsOfItsBlocks i state done.state out data_out)
    state i d.operation d.effect (step state i cdb data_out) (operation.OrWrite fields)
    (or_writing state fields) known refl d.effect_is d.done_is
    (record {
      its_blocks =
          λ address h.
          sets-bits (block contents address) (block_at data_out (address - out.lba)) _
          (length-block state.disk.capacity contents address limits.blocks)
          (whole-at data_out out.count (address - out.lba) long (below out.lba out.count address h))
          (if-inside (lies_in out.lba out.count address) _ _ _ h
          (replaced-at law contents out.lba out.count f data_in address)
          ∙ ored-at contents out data_out address h);
      changes = record {
        statuses = replaced-at law contents out.lba out.count f status_in;
        blocks =
            λ address.
            same-inside (lies_in out.lba out.count address) _ _ _
            (replaced-at law contents out.lba out.count f data_in address);
        rest = refl;
      };
    })
