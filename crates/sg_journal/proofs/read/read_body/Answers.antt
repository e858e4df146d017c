use Rattle.std.proofs.Common.{◌≡◌, ℕ, ◌-◌, false, List, [], ◌++◌, length, take, drop, sym, ◌∙◌, ap}
use Rattle.std.proofs.Common.{arith}
use Rattle.std.proofs.Common.{append_assoc, length-append, length-take}
use Rattle.std.proofs.lemmas.List.{append-nil}
use Rattle.byteorder.specs.Endian.{big_number}
use Rattle.byteorder.specs.Numbers.{big_from-append}
use Rattle.sg_journal.specs.Layout.{body_size, counts}
use Rattle.sg_journal.proofs.Written.{max_is}
use Rattle.sg_journal.proofs.Absent.{no_body, too_long, cut_short, front_two}
use Rattle.sg_journal.proofs.read.read_body.Goals as goal

pub returns-then-not-branch-clause-read : goal.returns-then-not-branch-clause-read
returns-then-not-branch-clause-read g c gate size =
    let none = c.in_ok-read_whole.ensures.none c.if-not-branch.true in
    let nothing : (rest : List ℕ) → length rest ≡ g.F.Source.left c.read_whole.new.source
    → counts c.args.sector (gate ++ ([] ++ rest)) ≡ false =
    λ rest is. no_body c.args.sector (gate ++ rest) (omega arith)
    (omega (arith, length-append gate rest, size, is, none.1, ap g.F.Source.left none.0)) in
    record {
      bytes = [];
      took = record {
        is = ap g.F.Source.taken none.0 ∙ sym (append-nil (g.F.Source.taken c.args.source.now));
        rest = omega (arith, ap g.F.Source.left none.0);
      };
      nothing = nothing;
    }

pub returns-then-len-clause-read : goal.returns-then-len-clause-read
returns-then-len-clause-read g c gate size =
    let first : List ℕ = c.read_whole.new.into in
    let whole = c.in_ok-read_whole.ensures.whole c.if-not-branch.false in
    let long : length first ≡ c.args.sector = c.read_whole.auto.into
    ∙ c.split_at_mut-first.ensures.front_len in
    let is : c.read_u64-len.result ≡ big_number 8 first = c.read_u64-len.ensures in
    record {
      bytes = first;
      took = record { is = whole.0; rest = whole.1 };
      nothing = λ rest e.
          too_long c.args.sector gate first rest size (omega arith) (omega (arith, is, max_is));
    }

pub returns-then-not-branch-2-clause-read : goal.returns-then-not-branch-2-clause-read
returns-then-not-branch-2-clause-read g c gate size =
    let first : List ℕ = c.read_whole.new.into in
    let whole = c.in_ok-read_whole.ensures.whole c.if-not-branch.false in
    let none = c.in_ok-read_whole-2.ensures.none c.if-not-branch-2.true in
    let long : length first ≡ c.args.sector = c.read_whole.auto.into
    ∙ c.split_at_mut-first.ensures.front_len in
    let is : c.read_u64-len.result ≡ big_number 8 first = c.read_u64-len.ensures in
    let total : c.body_size-size.result ≡ body_size c.args.sector (big_number 8 first) =
    c.body_size-size.ensures.value ∙ ap (body_size c.args.sector) is in
    record {
      bytes = first;
      took = record {
        is = ap g.F.Source.taken none.0 ∙ whole.0;
        rest = omega (arith, ap g.F.Source.left none.0, whole.1);
      };
      nothing = λ rest e.
          cut_short c.args.sector gate first rest size (omega arith)
          (omega (
            arith,
            total,
            long,
            e,
            ap g.F.Source.left none.0,
            none.1,
            length-take
                (c.body_size-size.result - c.args.sector) c.split_at_mut-first.result.1.now,
          ));
    }

pub returns-clause-read : goal.returns-clause-read
returns-clause-read g c =
    let first : List ℕ = c.read_whole.new.into in
    let second : List ℕ = c.read_whole-2.new.into in
    let len : ℕ = c.read_u64-len.result in
    let whole = c.in_ok-read_whole.ensures.whole c.if-not-branch.false in
    let more = c.in_ok-read_whole-2.ensures.whole c.if-not-branch-2.false in
    let long : length first ≡ c.args.sector = c.read_whole.auto.into
    ∙ c.split_at_mut-first.ensures.front_len in
    let size = c.body_size-size.ensures.value in
    let behind : List ℕ = drop (c.body_size-size.result - c.args.sector)
    c.split_at_mut-first.result.1.now in
    let both : take (body_size c.args.sector len) (first ++ (second ++ behind)) ≡ first ++ second =
    front_two first second behind (body_size c.args.sector len)
    (omega (
      arith,
      long,
      size,
      c.read_whole-2.auto.into,
      length-take
          (c.body_size-size.result - c.args.sector) c.split_at_mut-first.result.1.now,
      c.split_at_mut-first.ensures.back_len,
      c.body_size-size.ensures.below,
      c.body_size-size.ensures.some,
    )) in
    record {
      took = record {
        is =
            more.0 ∙ ap (λ (l : List ℕ). l ++ second) whole.0
            ∙ append_assoc (g.F.Source.taken c.args.source.now) first second
            ∙ ap (λ (l : List ℕ). g.F.Source.taken c.args.source.now ++ l) (sym both);
        rest = omega (arith, ap length both, length-append first second, more.1, whole.1);
      };
      is = c.read_u64-len.ensures ∙ sym (big_from-append 8 first (second ++ behind) (omega arith));
      within = omega (arith, max_is);
    }
