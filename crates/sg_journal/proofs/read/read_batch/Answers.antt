use Rattle.std.proofs.Common.{◌≡◌, ℕ, ◌+◌, ◌≤◌, false, List, [], ◌∷◌, ◌++◌, length, take, drop}
use Rattle.std.proofs.Common.{refl, sym, ◌∙◌, ap, subst, arith}
use Rattle.std.proofs.Common.{append_assoc, length-append}
use Rattle.std.proofs.lemmas.List.{length-take-le}
use Rattle.std.specs.Prelude.{Err}
use Rattle.sg_journal.specs.Layout.{body_size, counts}
use Rattle.sg_journal.specs.Journal.{found, IsHead}
use Rattle.sg_journal.specs.Reads.{IsGateRead, IsBodyRead, TookOpen, TookBody, TookNone}
use Rattle.sg_journal.specs.declared.fault.Fault.TheVariants.{Damaged}
use Rattle.sg_journal.proofs.Written.{max_is}
use Rattle.sg_journal.proofs.Fields.{body_below, body_fits}
use Rattle.sg_journal.proofs.Blocks.{head_read, damage_read}
use Rattle.sg_journal.proofs.read.read_batch.Goals as goal

pub returns-in_default-2-clause-read : goal.returns-in_default-2-clause-read
returns-in_default-2-clause-read g c bs whole place =
    let taken = g.F.Source.taken in
    let left = g.F.Source.left in
    let old = c.args.source.now in
    let mid = c.read_gate.new.source in
    let new = c.read_body.new.source in
    let gate : List ℕ = c.read_gate.new.gate in
    let size : length gate ≡ length c.args.gate.now = c.read_gate.auto.gate in
    let opened : TookOpen taken left old mid gate =
    subst (IsGateRead taken left old mid (length c.args.gate.now) gate) c.in_default.is
    c.in_ok-tail.ensures.read in
    let none : TookNone taken left mid new (length gate) gate =
    subst (IsBodyRead taken left mid new (length gate) c.read_body.new.body) c.in_default-2.is
    c.in_ok-len.ensures.read gate refl in
    let nothing : (rest : List ℕ) → length rest ≡ left new
    → counts (length c.args.gate.now) ((gate ++ none.bytes) ++ rest) ≡ false =
    λ rest e. ap (counts (length c.args.gate.now)) (append_assoc gate none.bytes rest)
    ∙ subst (λ (n : ℕ). counts n (gate ++ (none.bytes ++ rest)) ≡ false) size
    (none.nothing rest e) in
    record {
      head = taken old;
      behind = gate ++ none.bytes;
      is =
          none.took.is ∙ ap (λ (l : List ℕ). l ++ none.bytes) opened.took.is
          ∙ append_assoc (taken old) gate none.bytes;
      whole = whole;
      place = place;
      nothing = nothing;
    }

pub is_sound-requires-clause-len : goal.is_sound-requires-clause-len
is_sound-requires-clause-len g c =
    let taken = g.F.Source.taken in
    let left = g.F.Source.left in
    let old = c.args.source.now in
    let mid = c.read_gate.new.source in
    let new = c.read_body.new.source in
    let gate : List ℕ = c.read_gate.new.gate in
    let size : length gate ≡ length c.args.gate.now = c.read_gate.auto.gate in
    let len : ℕ = c.in-Some-2.len in
    let b : List ℕ = c.read_body.new.body in
    let body : TookBody taken left mid new (length gate) b len =
    subst (IsBodyRead taken left mid new (length gate) b) c.in-Some-2.is c.in_ok-len.ensures.read in
    let below = body_below (length gate) len (omega (arith, size)) in
    let room : body_size (length gate) len ≤ length b =
    omega (arith, below, body.within, max_is, size, c.read_body.auto.body) in
    omega (arith, body.within, max_is)

pub is_sound-requires-clause-room : goal.is_sound-requires-clause-room
is_sound-requires-clause-room g c =
    let taken = g.F.Source.taken in
    let left = g.F.Source.left in
    let old = c.args.source.now in
    let mid = c.read_gate.new.source in
    let new = c.read_body.new.source in
    let gate : List ℕ = c.read_gate.new.gate in
    let size : length gate ≡ length c.args.gate.now = c.read_gate.auto.gate in
    let len : ℕ = c.in-Some-2.len in
    let b : List ℕ = c.read_body.new.body in
    let body : TookBody taken left mid new (length gate) b len =
    subst (IsBodyRead taken left mid new (length gate) b) c.in-Some-2.is c.in_ok-len.ensures.read in
    let below = body_below (length gate) len (omega (arith, size)) in
    let room : body_size (length gate) len ≤ length b =
    omega (arith, below, body.within, max_is, size, c.read_body.auto.body) in
    omega (arith, room, body_fits (length gate) len)

pub returns-then-not-is_sound-clause-fault : goal.returns-then-not-is_sound-clause-fault
returns-then-not-is_sound-clause-fault g c fault is bs whole place rest e =
    let taken = g.F.Source.taken in
    let left = g.F.Source.left in
    let old = c.args.source.now in
    let mid = c.read_gate.new.source in
    let new = c.read_body.new.source in
    let gate : List ℕ = c.read_gate.new.gate in
    let size : length gate ≡ length c.args.gate.now = c.read_gate.auto.gate in
    let opened : TookOpen taken left old mid gate =
    subst (IsGateRead taken left old mid (length c.args.gate.now) gate) c.in_default.is
    c.in_ok-tail.ensures.read in
    let len : ℕ = c.in-Some-2.len in
    let b : List ℕ = c.read_body.new.body in
    let body : TookBody taken left mid new (length gate) b len =
    subst (IsBodyRead taken left mid new (length gate) b) c.in-Some-2.is c.in_ok-len.ensures.read in
    let below = body_below (length gate) len (omega (arith, size)) in
    let room : body_size (length gate) len ≤ length b =
    omega (arith, below, body.within, max_is, size, c.read_body.auto.body) in
    let here : IsHead (length gate) (taken old) bs =
    subst (λ (n : ℕ). IsHead n (taken old) bs) (sym size) whole in
    let all = body.took.is
    ∙ ap (λ (l : List ℕ). l ++ take (body_size (length gate) len) b) opened.took.is in
    let same : Damaged (length (taken old)) ≡ fault = ap Damaged (sym place) ∙ cc in
    ap (λ (l : List ℕ). found (l ++ rest)) all
    ∙ damage_read (length gate) len gate b (omega (arith, size)) refl opened.is_open body.is
    body.within
    room (taken old) bs here (sym c.is_sound.ensures ∙ c.if-not-is_sound.true) rest
    ∙ ap (λ f. Err f) same

pub returns-clause-read : goal.returns-clause-read
returns-clause-read g c bs whole place =
    let taken = g.F.Source.taken in
    let left = g.F.Source.left in
    let old = c.args.source.now in
    let mid = c.read_gate.new.source in
    let new = c.read_body.new.source in
    let gate : List ℕ = c.read_gate.new.gate in
    let size : length gate ≡ length c.args.gate.now = c.read_gate.auto.gate in
    let opened : TookOpen taken left old mid gate =
    subst (IsGateRead taken left old mid (length c.args.gate.now) gate) c.in_default.is
    c.in_ok-tail.ensures.read in
    let len : ℕ = c.in-Some-2.len in
    let b : List ℕ = c.read_body.new.body in
    let body : TookBody taken left mid new (length gate) b len =
    subst (IsBodyRead taken left mid new (length gate) b) c.in-Some-2.is c.in_ok-len.ensures.read in
    let below = body_below (length gate) len (omega (arith, size)) in
    let room : body_size (length gate) len ≤ length b =
    omega (arith, below, body.within, max_is, size, c.read_body.auto.body) in
    let here : IsHead (length gate) (taken old) bs =
    subst (λ (n : ℕ). IsHead n (taken old) bs) (sym size) whole in
    let front : List ℕ = take (body_size (length gate) len) b in
    let all : taken new ≡ (taken old ++ gate) ++ front =
    body.took.is ∙ ap (λ (l : List ℕ). l ++ front) opened.took.is in
    let head : IsHead (length gate) ((taken old ++ gate) ++ front) (bs ++ take len (drop 16 b) ∷ [])
    =
    head_read (length gate) len gate b (omega (arith, size)) refl opened.is_open body.is body.within
    room
    (taken old) bs here (sym c.is_sound.ensures ∙ c.if-not-is_sound.false) in
    let total : length (taken new) ≡ c.args.end + (length gate + body_size (length gate) len) =
    omega (
      arith,
      ap length all,
      length-append (taken old ++ gate) front,
      length-append (taken old) gate,
      length-take-le (body_size (length gate) len) b room,
      place,
    ) in (
      subst (λ (n : ℕ). IsHead n (taken new) (bs ++ take len (drop 16 b) ∷ [])) size
          (subst (λ (l : List ℕ). IsHead (length gate) l (bs ++ take len (drop 16 b) ∷ []))
          (sym all) head),
      subst (λ (n : ℕ). length (taken new) ≡ c.args.end + (n + body_size n len)) size total,
      body.within,
    )

pub returns-clause-within : goal.returns-clause-within
returns-clause-within g c =
    let taken = g.F.Source.taken in
    let left = g.F.Source.left in
    let old = c.args.source.now in
    let mid = c.read_gate.new.source in
    let new = c.read_body.new.source in
    let gate : List ℕ = c.read_gate.new.gate in
    let size : length gate ≡ length c.args.gate.now = c.read_gate.auto.gate in
    let len : ℕ = c.in-Some-2.len in
    let b : List ℕ = c.read_body.new.body in
    let body : TookBody taken left mid new (length gate) b len =
    subst (IsBodyRead taken left mid new (length gate) b) c.in-Some-2.is c.in_ok-len.ensures.read in
    let below = body_below (length gate) len (omega (arith, size)) in
    let room : body_size (length gate) len ≤ length b =
    omega (arith, below, body.within, max_is, size, c.read_body.auto.body) in
    omega (arith, body.within, max_is)

pub returns-clause-less : goal.returns-clause-less
returns-clause-less g c =
    let taken = g.F.Source.taken in
    let left = g.F.Source.left in
    let old = c.args.source.now in
    let mid = c.read_gate.new.source in
    let new = c.read_body.new.source in
    let gate : List ℕ = c.read_gate.new.gate in
    let size : length gate ≡ length c.args.gate.now = c.read_gate.auto.gate in
    let opened : TookOpen taken left old mid gate =
    subst (IsGateRead taken left old mid (length c.args.gate.now) gate) c.in_default.is
    c.in_ok-tail.ensures.read in
    let len : ℕ = c.in-Some-2.len in
    let b : List ℕ = c.read_body.new.body in
    let body : TookBody taken left mid new (length gate) b len =
    subst (IsBodyRead taken left mid new (length gate) b) c.in-Some-2.is c.in_ok-len.ensures.read in
    let below = body_below (length gate) len (omega (arith, size)) in
    let room : body_size (length gate) len ≤ length b =
    omega (arith, below, body.within, max_is, size, c.read_body.auto.body) in
    omega (arith, opened.took.rest, body.took.rest, size, c.requires.sector.0)
