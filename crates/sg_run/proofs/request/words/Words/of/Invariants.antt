use Rattle.std.proofs.Common.{◌≡◌, map, take}
use Rattle.std.specs.List.{list_all}
use Rattle.sg_run.specs.Request.{is_allowed}
use Rattle.sg_run.proofs.WordLemmas.{TakesWords}
use Rattle.sg_run.proofs.request.words.Words.of.Given as goal

-- the words so far; each but the last has a blank after it
abbrev pub invariant-loop-index : goal.invariant-loop-index
invariant-loop-index g l = record {
  takes : TakesWords l.text l.start l.index
      g.row.N (map (λ word. word.now) l.words.first.items) l.words.count;
  allowed : l.words.are_allowed ≡ list_all is_allowed (take l.index l.text);
}
