-- A command of the holder, in states that look alike to it; what it adds to the answers.
use Rattle.std.proofs.Common.{◌≡◌, ℕ, Bool, true, false, cond, not, ◌&&◌, List, ◌∷◌}
use Rattle.std.proofs.Common.{map}
use Rattle.std.proofs.Common.{refl, sym, subst}
use Rattle.sg_wire.specs.CdbDecoding.{command_of}
use Rattle.sg_units.specs.Laws.{OneKeyEach}
use Rattle.sg_wire.specs.CdbDecoding.{command_in}
use Rattle.sg_fencing.specs.Fencing.{gives_away}
use Rattle.sg_target.specs.State.{profile_of}
use Rattle.sg_fencing.specs.Fencing.{holds_alone}
use Rattle.sg_fencing.specs.Fencing.{shows_others}
use Rattle.sg_fencing.specs.Fencing.{view_of}
use Rattle.sg_target.specs.Runs.{step_of}
use Rattle.sg_target.specs.State.{IsWithinLimits, State}
use Rattle.sg_target.specs.Step.{Answer, step}
use Rattle.sg_target.specs.declared.call.Call.{Call}
use Rattle.sg_fencing.proofs.OwnLemmas.{StepsAlike, own-alike}

-- the answers of exchanges
abbrev pub answers_in : List (Call × Answer) → List Answer
answers_in exchanges = map (λ (exchange : Call × Answer). exchange.1) exchanges

-- one more exchange on both sides, compared or not
pub both-more : (call : Call) (from shows : Bool) (x y : Answer) (xs ys : List (Call × Answer))
    → (shows ≡ false → x ≡ y) → answers_in xs ≡ answers_in ys
    → answers_in (cond (from && not shows) ((call, x) ∷ xs) xs)
    ≡ answers_in (cond (from && not shows) ((call, y) ∷ ys) ys)
both-more call true true x y xs ys e rest = rest
both-more call true false x y xs ys e rest = λ d. e refl d ∷ rest d
both-more call false shows x y xs ys e rest = rest

-- one more on one side, which is not compared
pub none-more : (call : Call) (from shows : Bool) (x : Answer) (xs : List (Call × Answer))
    → from ≡ false → answers_in (cond (from && not shows) ((call, x) ∷ xs) xs) ≡ answers_in xs
none-more call true shows x xs e = cc
none-more call false shows x xs e = refl

module _ (one : OneKeyEach) (i : ℕ) where
  pub own-step : (first second : State) (call : Call) → IsWithinLimits first → IsWithinLimits second
      → first.identity ≡ second.identity → view_of first i ≡ view_of second i
      → holds_alone first i ≡ true → call.initiator ≡ i
      → gives_away (command_in (profile_of first) call.cdb.now) ≡ false
      → StepsAlike (shows_others (command_of call.cdb.now)) i (step_of first call) (step_of second call)
  own-step first second call w w' identity view held e keeps =
      let cdb = call.cdb.now in
      let data_out = call.data_out.now in
      subst
      (λ (j : ℕ). StepsAlike (shows_others (command_of cdb)) i (step first j cdb data_out)
      (step second j cdb data_out))
      (sym e) (own-alike one first second i cdb data_out w w' identity view held keeps)
