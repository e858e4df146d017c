use Rattle.std.proofs.Common.{◌≡◌, map, take}
use Rattle.sg_run.proofs.request.tool.parse_words.Given as goal

-- the words so far are texts
abbrev pub invariant-loop-word : goal.invariant-loop-word
invariant-loop-word l =
    map (λ text. text.now) l.texts.items ≡ map (λ word. word.now) (take l.word-index l.words)
