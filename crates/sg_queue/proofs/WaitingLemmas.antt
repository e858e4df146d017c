-- Calls that wait, and one more.
use Rattle.std.proofs.Common.{◌≡◌, ℕ, List, [], ◌∷◌, ◌++◌, length, take, drop, refl, ap}
use Rattle.std.proofs.Common.{arith, length-append}
use Rattle.std.proofs.Common.{Option, Some, None, is_some, option_to_list}
use Rattle.std.proofs.lemmas.List.{take_all, take-append-le, drop-append-le}
use Rattle.std.proofs.Math.ListN.{drop_of_length-le}
use Rattle.sg_file.specs.Calls.{Call, bytes_of}
use Rattle.sg_queue.specs.QueuedCall.{call_as}
use Rattle.sg_queue.specs.QueueFields.{has_any}
use Rattle.sg_queue.specs.Waiting.{waiting, AreWhole}
use Rattle.sg_queue.specs.declared.call.QueuedCall.{QueuedCall}

-- A call that is added has the new bytes.
pub record Added (calls : List QueuedCall) (old : List ℕ) (call : QueuedCall) (bytes : List ℕ) : Type 0 where
  pub waiting : waiting (calls ++ call ∷ []) (old ++ bytes) ≡ waiting calls old ++ call_as call bytes ∷ []
  pub whole : AreWhole (calls ++ call ∷ []) (old ++ bytes)

pub added : (calls : List QueuedCall) (old : List ℕ) (call : QueuedCall) (bytes : List ℕ)
    → AreWhole calls old → call.length ≡ length bytes → call.length ≡ length (bytes_of (call_as call bytes))
    → Added calls old call bytes
added [] old call bytes whole size needed = let all = take_all call.length bytes (omega (arith, size)) in
    let none_left = drop_of_length-le bytes (omega (arith, size)) in record {
      waiting = rw (whole, all) refl;
      whole = rw (whole, all) (omega (arith, size), needed, none_left);
    }
added (first ∷ later) old call bytes whole size needed =
    let further = added later (drop first.length old) call bytes whole.2 size needed in
    let front = take-append-le first.length old bytes whole.0 in
    let behind = drop-append-le first.length old bytes whole.0 in
    let oldest = call_as first (take first.length old) in record {
      waiting = rw (front, behind) (ap (λ (l : List Call). oldest ∷ l) further.waiting);
      whole =
          rw (front, behind) (omega (arith, whole.0, length-append old bytes), whole.1, further.whole);
    }

pub waits : (oldest : Option QueuedCall) (calls : List QueuedCall) (bytes : List ℕ)
    → calls ≡ option_to_list oldest ++ drop 1 calls → is_some oldest ≡ has_any (waiting calls bytes)
waits None [] bytes is = refl
waits None (_ ∷ later) bytes is = absurd (omega (arith, ap length is))
waits (Some _) [] bytes is = absurd (omega (arith, ap length is))
waits (Some _) (_ ∷ later) bytes is = refl

pub none : (calls : List QueuedCall) (bytes : List ℕ) → calls ≡ drop 1 calls → waiting calls bytes ≡ []
none [] bytes is = refl
none (_ ∷ later) bytes is = absurd (omega (arith, ap length is))
