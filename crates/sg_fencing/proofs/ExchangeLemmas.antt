-- COMPARE AND WRITE: what it finds in its blocks, and what it leaves in them.
use Rattle.std.proofs.Common.{◌≡◌, ◌<◌, ℕ, zero, suc, ◌+◌, ◌-◌, ◌*◌, ◌==◌, List, [], ◌∷◌, ◌++◌}
use Rattle.std.proofs.Common.{length, take, drop, Bool, true, false, cond, Option, Some, None}
use Rattle.std.proofs.Common.{Ok, refl, sym, ap, ap₂, ◌∙◌, subst, arith}
use Rattle.std.proofs.Common.{length-append, length-take, length-drop, eqb-true}
use Rattle.std.proofs.lemmas.List.{take_all}
use Rattle.std.proofs.Math.Seq.{take-add}
use Rattle.std.specs.FinMap.{get}
use Rattle.sg_wire.specs.declared.command.Command.{Command}
use Rattle.sg_wire.specs.declared.command.Command.TheVariants as command
use Rattle.sg_wire.specs.declared.extent.Extent.{Extent}
use Rattle.sg_store.specs.Comparison.{first_difference}
use Rattle.sg_store.specs.Disk.{Contents, IsWellFormed, Mapping, block, block_at, blocks, data_in}
use Rattle.sg_store.specs.Disk.{written, zero_block}
use Rattle.sg_store.specs.Disk.Mapping.{Data, Anchored}
use Rattle.sg_store.specs.Laws.{MapsEachAddress, WritesEachBlock}
use Rattle.sg_store.proofs.ComparisonLemmas.{none-same}
use Rattle.sg_store.proofs.DiskLemmas.{blocks-more, blocks-none, inside}
use Rattle.sg_target.specs.BlockCommands.{blocks_at, bytes_of, exchange_out, exchanging, miscompare}
use Rattle.sg_target.specs.Charge.{step_by}
use Rattle.sg_target.specs.Checks.{short_data_out, unsupported_value}
use Rattle.sg_target.specs.Config.{ConfigFields}
use Rattle.sg_target.specs.Demands.{demands, exchange_need, extent}
use Rattle.sg_target.specs.Refusal.{first_some}
use Rattle.sg_target.specs.Alerts.{alerted}
use Rattle.sg_target.specs.State.{IsWithinLimits, State, config_of, resources_of}
use Rattle.sg_target.specs.Step.{Step, refused, with_alert}
use Rattle.sg_target.specs.declared.operation.Operation.{Operation}
use Rattle.sg_target.specs.declared.operation.Operation.TheVariants.{CompareAndWrite}
use Rattle.sg_target.specs.declared.refusal.Refusal.{Refusal}
use Rattle.sg_target.proofs.AlertLemmas.{refused-no-alert}
use Rattle.sg_target.proofs.LiftLemmas.{lifted, not_good, outcome-by, request_checks}
use Rattle.sg_fencing.specs.Exchanges.{ExchangesOrLeaves, ExchangesReplaceWhatTheyExpect}
use Rattle.sg_fencing.specs.Exchanges.{IsExchanged, blocks_to_exchange}
use Rattle.sg_fencing.proofs.DiskLemmas.{refused-leaves}

-- ---- Joined blocks

zero-length : length zero_block ≡ 512
unfolding zero_block
zero-length = refl

data-length : (m : Contents) (capacity address : ℕ) → IsWellFormed capacity m
    → (found : Option Mapping) → get m address ≡ found → length (data_in found) ≡ 512
data-length m capacity address w (Some (Data block)) e = (w.each address (Data block) e).1
data-length m capacity address w (Some Anchored) e = zero-length
data-length m capacity address w None e = zero-length

pub length-blocks : (m : Contents) (capacity a k : ℕ) → IsWellFormed capacity m
    → length (blocks m a k) ≡ 512 * k
length-blocks m capacity a zero w = ap length (blocks-none m a)
length-blocks m capacity a (suc k) w =
    let e : suc k ≡ k + 1 = omega arith in
    let joined : length (blocks m a (suc k)) ≡ length (blocks m a k ++ block m (a + k)) =
    ap (λ n. length (blocks m a n)) e ∙ ap length (blocks-more m a k) in
    omega (
      arith,
      joined,
      length-append (blocks m a k) (block m (a + k)),
      length-blocks m capacity a k w,
      data-length m capacity (a + k) w (get m (a + k)) refl,
    )

-- blocks that are each a block of some bytes are the first of them, joined
joined-blocks : (m : Contents) (a k : ℕ) (bytes : List ℕ)
    → ((j : ℕ) → j < k → block m (a + j) ≡ block_at bytes j)
    → blocks m a k ≡ take (512 * k) bytes
joined-blocks m a zero bytes h = blocks-none m a
joined-blocks m a (suc k) bytes h =
    let e : suc k ≡ k + 1 = omega arith in
    let f : 512 * k + 512 ≡ 512 * suc k = omega arith in
    ap (λ n. blocks m a n) e ∙ (blocks-more m a k
    ∙ (ap₂ (λ xs ys. xs ++ ys) (joined-blocks m a k bytes (λ j lt. h j (omega arith))) (h k (omega arith))
    ∙ (sym (take-add (512 * k) 512 bytes) ∙ ap (λ n. take n bytes) f)))

-- blocks that are written are the bytes that were written
written-blocks : WritesEachBlock → (m : Contents) (a k : ℕ) (bytes : List ℕ)
    → length bytes ≡ 512 * k → blocks (written m a k bytes) a k ≡ bytes
written-blocks puts m a k bytes len =
    joined-blocks (written m a k bytes) a k bytes
    (λ j lt. let same : a + j - a ≡ j = omega arith in
    puts m a k bytes (a + j)
    ∙ (ap (λ b. cond b (block_at bytes (a + j - a)) (block m (a + j)))
    (inside a k (a + j) (omega arith) (omega arith))
    ∙ ap (block_at bytes) same))
    ∙ take_all (512 * k) bytes (omega (arith, len))

-- ---- The operation

-- neither a difference nor a lack of space is found
no-difference : (difference : Option ℕ) (space : Option Refusal)
    → first_some (miscompare difference ∷ space ∷ []) ≡ None → difference ≡ None
no-difference None space e = refl
no-difference (Some offset) space e = cc

module _ (maps : MapsEachAddress) (puts : WritesEachBlock) (state : State) (i : ℕ) (w : IsWithinLimits state)
    (named : Extent) (data_out : List ℕ) where
  abbrev Exchanges : Step → Type 0
  Exchanges done = ExchangesOrLeaves i state done named data_out

  refused-exchanges : (refusal : Refusal) → Exchanges (refused state i refusal)
  refused-exchanges refusal = record {
    good = λ good. absurd (not_good state i refusal good);
    not_good = λ other. refused-leaves state i refusal;
  }

  abbrev its : Operation
  its = CompareAndWrite (exchange_out named data_out)

  exchanged : length data_out ≡ 2 * bytes_of named
      → first_difference (blocks_at state named) (take (bytes_of named) data_out) ≡ None
      → IsExchanged i state
      (alerted (resources_of state) i (exchanging state (exchange_out named data_out)).after) named data_out
  exchanged whole none =
      let m = state.disk.contents in
      let replacement = drop (bytes_of named) data_out in
      let long = length-blocks m state.disk.capacity named.lba named.count w.blocks in
      record {
        two_halves = whole;
        found = none-same (blocks_at state named) (take (bytes_of named) data_out)
            (omega (arith, long, whole, length-take (bytes_of named) data_out)) none;
        left = written-blocks puts m named.lba named.count replacement
            (omega (arith, whole, length-drop (bytes_of named) data_out));
        changes = record {
          statuses = maps m named.lba named.count replacement;
          blocks = puts m named.lba named.count replacement;
          rest = refl;
        };
      }

  operation-exchanges : length data_out ≡ 2 * bytes_of named → Exchanges (step_by state i its)
  operation-exchanges whole =
      outcome-by state i (λ (done : Step). Exchanges (with_alert state i done))
      (exchanging state (exchange_out named data_out))
      (λ refusal. subst Exchanges (sym (refused-no-alert state i refusal)) (refused-exchanges refusal))
      (λ none. record {
        good = λ good. exchanged whole (no-difference _ _ none);
        not_good = λ other. absurd (other refl);
      })

-- ---- The command

-- it asks for the operation, and has data-out of the length that it needs
record IsAsked (named : Extent) (data_out : List ℕ) (operation : Operation) : Type 0 where
  is : CompareAndWrite (exchange_out named data_out) ≡ operation
  whole : length data_out ≡ 2 * bytes_of named

right-length : (named : Extent) (data_out : List ℕ) (is_whole : Bool) (short : Option Refusal)
    → (length data_out == 2 * bytes_of named) ≡ is_whole
    → first_some (unsupported_value (cond is_whole None (Some 13)) ∷ short ∷ []) ≡ None
    → length data_out ≡ 2 * bytes_of named
right-length named data_out true short e accepted = eqb-true (length data_out) (2 * bytes_of named) e
right-length named data_out false short e accepted = cc

is-asked : (config : ConfigFields) (c : Command) (named : Extent) (data_out : List ℕ) (operation : Operation)
    → first_some (request_checks (demands config c data_out) data_out) ≡ None
    → (demands config c data_out).operation ≡ Ok operation
    → blocks_to_exchange (Ok c) ≡ Some named → IsAsked named data_out operation
is-asked config (command.CompareAndWrite c) named data_out operation accepted asks h =
    let same : extent c.lba c.count ≡ named = cc in
    let its = extent c.lba c.count in
    subst (λ (e : Extent). IsAsked e data_out operation) same
    (record {
      is = cc;
      whole = right-length its data_out (length data_out == 2 * bytes_of its)
          (short_data_out (Some (exchange_need its)) data_out) refl accepted;
    })
is-asked config _ named data_out operation accepted asks h = cc

pub exchanges-replace : MapsEachAddress → WritesEachBlock → ExchangesReplaceWhatTheyExpect
exchanges-replace maps puts state i cdb data_out named w is =
    lifted state i cdb data_out (λ (done : Step). ExchangesOrLeaves i state done named data_out)
    (refused-exchanges maps puts state i w named data_out)
    (λ operation k.
    let known = is-asked (config_of state) k.command named data_out operation k.accepted k.operation_is
    (ap blocks_to_exchange (sym k.command_is) ∙ is) in
    subst (λ (o : Operation). ExchangesOrLeaves i state (step_by state i o) named data_out) known.is
    (operation-exchanges maps puts state i w named data_out known.whole))
