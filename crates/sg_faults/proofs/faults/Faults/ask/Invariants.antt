use Rattle.std.proofs.Common.{◌≡◌, ◌++◌, drop, take}
use Rattle.sg_faults.specs.Faults.{asked, decided}
use Rattle.sg_faults.proofs.faults.Faults.ask.Given as goal

-- no fault so far is due, and the others decide
abbrev pub invariant-loop-number : goal.invariant-loop-number
invariant-loop-number g l = record {
  rest : drop l.number l.self ≡ drop l.number l.fn.self;
  struck : decided g.P.Place.at l.command (drop l.number l.fn.self)
      ≡ decided g.P.Place.at l.command l.fn.self;
  faults : take l.number l.self ++ asked g.P.Place.at l.command (drop l.number l.fn.self)
      ≡ asked g.P.Place.at l.command l.fn.self;
}
