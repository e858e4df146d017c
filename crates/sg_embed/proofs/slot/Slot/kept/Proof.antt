-- `kept` lends what the slot's box owns, or nothing at null; the slot follows it.
use Rattle.std.proofs.Common.{◌≡◌, ℕ, List, [], ◌∷◌, ◌++◌, refl, sym, subst, lit<}
use seplogic.Ra.Ura.{Ura}
use base.Fraction.{full_share}
use mir.Raw.{raw as bare}
use mir.Syntax.{named}
use mir.Val.{Val, vptr, vcons, vnil}
use base.Logic.{SProp, ent, sep, emp, via, fst∗, snd∗, id⊢}
use base.Fml.{Lft, GName, Share, Fml, ftrue, fsep, flft, fres}
use prog.Memory.{Memory}
use prog.Routine.{Routine}
use prog.Wp.{Env, Calls, Loops, Wp, WpFn, Tables, after_block, after_seq, at_return}
use types.Logic.{Logic, sem}
use contract.Monad.{Fun, fact_use}
use contract.Running.{tables, tables_of}
use sound.WpLaws.{WpFn-mono}
use types.Kit.{at_ret, any_q, ‵, raw, some, later, ◌⊛◌, ◌$◌, ◌∵◌, !, qed, move, drop, keep}
use types.Kit.{use0, use1, await, pick}
use types.Kit.{join, split, split3, group, rewrite, fsplit, fsplit3, fjoin, fpack, suffices, frame, done}
use types.Match.{live}
use types.Part.{whole, sub, look_in, agg}
use types.Run.{stop, fld, load, lit, bin, addr, no_more, and_then, of_opd, first, blocks}
use types.Run.{branches, exec, returns, enter}
use types.ByLocal.{alloc_all, pass_all, free_all, look_at, get, through, sets, sets_last, env}
use denote.Exit.{no}
use denote.Follow.{follows, follows_by, lends_Part}
use denote.Laws.{Are, Ises, owns_show, showss}
use denote.Memory.{mem, cell_at, part_at, part_of}
use denote.RattleType.{RattleType, owns}
use denote.RawPtr.{Ptr, block_ptr, tests_null}
use denote.Ref.{MutRef, MutBor}
use denote.Signature.{plain, mut_ref_to, types_at}
use denote.Steps.{nothing, opens, closes}
use denote.Triple.Clauses.{Clauses}
use denote.Triple.Entry.{on_entry, alive}
use denote.Triple.Spec.{triple_of}
use denote.Triple.Table.{entered}
use denote.Triple.Walked.{says, Stays, stay_dropped, walk_of, ends_at, Goes-spent_ref, walk_Meets}
use Rattle.std.specs.declared.option.Option.{Option}
use Rattle.std.specs.declared.option.Option.TheVariants.{None, Some}
use Rattle.std.specs.contracts.option.Option as Opt
use Rattle.std.specs.contracts.alloc.Global as Heap
use Rattle.std.specs.contracts.impls.GlobalAllocator.TheImpl.{ghosts}
use Rattle.std.proofs.alloc.Shapes.{after, head, inside}
use Rattle.std.proofs.option.Made.{Some-of, none_of}
use Rattle.std.proofs.BoxSteps.Form.{D, R, τ, word}
use Rattle.std.proofs.BoxSteps.Steps.{box_in}
use Rattle.sg_embed.specs.Lends.{with_kept}
use Rattle.sg_embed.specs.contracts.slot.Slot as slot
use Rattle.sg_embed.proofs.SlotSteps.{E, bare_word, bare_in, slot_out}
use Rattle.sg_embed.specs.contracts.slot.Slot.kept as F
use Rattle.sg_embed.proofs.slot.Slot.kept.Statement as stated
use Rattle.sg_embed.proofs.slot.Slot.kept.Code as code

abbrev Self : RattleType
Self = slot.the_row

abbrev stayed : Stays (F.ended).signature.params (F.ended).kept
stayed = (stay_dropped (mut_ref_to (0 ∷ []) tt (plain (λ _. Self))) no, tt)

module _ {M : Type 1} {𝓤 : Ura M} (𝓛 : Logic 𝓤) (at_mem : Memory → SProp 𝓤) (run : Routine
    → Fun 𝓤) where
  open 𝓛 use {H}

  abbrev claims : Clauses 𝓤 F.ended
  claims = F.clauses 𝓛 at_mem run

  module _ (C : Calls 𝓤 H) (Λ : Loops 𝓤 H) (z : (walk_of 𝓛 F.ended stayed claims).Ghost) where
    abbrev At : List Val → (walk_of 𝓛 F.ended stayed claims).Ghost
    At us = ((z.0.0, z.0.1, z.0.2, z.0.3, (us, tt)), z.1)

    abbrev Post : List Val → Val → SProp 𝓤
    Post us = (walk_of 𝓛 F.ended stayed claims).post (At us)

    abbrev Goes : List Val → Type 1
    Goes us = ent 𝓤 ((walk_of 𝓛 F.ended stayed claims).pre (At us)) (WpFn 𝓤 H C Λ code.function
        (us ++ []) (Post us))

    abbrev me : Self.Denot
    me = z.0.3.0.now

    abbrev rb : ℕ
    rb = z.0.3.0.ref_ptr.0

    abbrev ro : ℕ
    ro = z.0.3.0.ref_ptr.1

    abbrev us : List Val
    us = vptr rb ro ∷ []

    abbrev κ : Lft
    κ = z.0.0.0

    abbrev q : Share
    q = z.0.1.0

    abbrev γ : GName
    γ = z.0.3.0.ghost_name

    abbrev Lent : RattleType
    Lent = MutRef (named 0) κ (R E)

    abbrev Cell : List Val → Fml
    Cell ws = cell_at full_share Self.mir ws rb ro

    -- all of the slot but the disk
    abbrev Rest : (b o : ℕ) (h : Val) → Fml
    Rest b o h = fsep (fsep (ghosts.dealloc_token me.alloc (bare (τ E)) (block_ptr b o))
        (Heap.the_row.own_val me.alloc (h ∷ []))) (Cell (word E h b o ∷ []))

    back : (b o : ℕ) (h : Val) → me.at ≡ block_ptr b o → (w : E.row.Denot)
        → ent 𝓤 (sep 𝓤 (sem 𝓛 ((mem (R E)).own_at w b o)) (sem 𝓛 (Rest b o h)))
        (sem 𝓛 ((mem Self).own_at (with_kept me w) rb ro))
    unfolding part_of
    back b o h e w =
        let d : D E = record { ptr = me.at; alloc = me.alloc; value = w } in
        qed 𝓛 (‵ (part_at (R E) full_share w b o) ∷ ‵ (Rest b o h) ∷ []) ∵ move ! (1 ∷ []) $
        fsplit ! $ fsplit ! $ move ! (3 ∷ []) $ box_in E ! d b o w e refl $
        use1 𝓛 (‵ (Self.own_val (with_kept me w) (word E h b o ∷ []))) (id⊢ 𝓤 _) $
        move ! (1 ∷ 0 ∷ []) $ fjoin ! $
        fpack ! (List Val) (λ ws. fsep (Cell ws) (Self.own_val (with_kept me w) ws)) (word E h b o
        ∷ []) $ done !

    walks : Goes us
    unfolding follows_by
    walks =
        qed 𝓛 (((‵ (flft κ q) ⊛ ‵ ftrue)
        ⊛ ‵ (owns (types_at (F.ended).signature.params z.0.0) z.0.3 (us, tt))) ∷ raw (emp 𝓤) ∷ []) ∵
        split ! $ split ! $ move ! (2 ∷ []) $ fsplit ! $ fsplit3 ! $ drop ! $
        move ! (0 ∷ 1 ∷ 3 ∷ []) $ keep ! (0 ∷ 1 ∷ 2 ∷ []) $
        enter ! C Λ code.function us _ $ alloc_all ! (λ l. pass_all ! refl ((tt, tt), tt) $
        let En : Env 𝓤 H = env (code.function).locals l in
        let Rest-of = any_q (after_block 𝓤 H (after_seq 𝓤 H (Wp 𝓤 H C Λ En (after 1 (code.function).body)
        (at_return 𝓤 H En (Post us))) (at_return 𝓤 H En (Post us)))) in
        opens ! tt Self {h = me} rb ro (λ vs. move ! (1 ∷ []) $
        slot_out ! me.at me.alloc me.held vs
        (λ h e at_null ws fits. rewrite ! 1 (λ (xs : List Val). ‵ (Cell xs)) ws refl $
        -- [the handle; the slot's cell; the open borrow; obs; auth]
        first ! $ blocks ! $
        sets ! (of_opd ! (load ! (through ! refl (fld ! refl (stop !))) (look_in ! 1 (sub ! 0 refl
        (whole !))))) refl (tt, record { fits = lit< tt }) $
        sets ! (of_opd ! (get ! refl)) refl (tt, record { fits = lit< tt }) $
        sets ! (bin ! (get ! refl) (lit ! tt) tt) refl (tt, tt) $ first ! $ branches ! (get ! refl)
        (λ _. sets_last ! (agg ! (and_then ! (lit ! tt) (no_more !))) refl (
          tt,
          (record { fits = lit< tt }, tt),
        ) $
        exec ! C Λ En (after 4 (inside (head (code.function).body))) Rest-of $
        sets_last ! (of_opd ! (get ! refl)) refl (tt, (record { fits = lit< tt }, tt)) $
        exec ! C Λ En (after 1 (code.function).body) (at_ret En (Post us)) $
        sets ! (of_opd ! (get ! refl)) refl (tt, (record { fits = lit< tt }, tt)) $
        bare_in ! me.alloc h $
        rewrite ! 0 (λ (p : Ptr). ‵ (Self.own_val (record {
          at = p;
          alloc = me.alloc;
          held = None;
        }) (bare_word h ∷ []))) (sym at_null) refl $
        rewrite ! 0 (λ (k : Option E.row.Denot). ‵ (Self.own_val (record {
          at = me.at;
          alloc = me.alloc;
          held = k;
        }) (bare_word h ∷ []))) (sym e) refl $
        move ! (1 ∷ 0 ∷ []) $ closes ! tt Self me (bare_word h ∷ []) rb ro $
        use1 𝓛 (‵ (fres γ (Self.coded.code me))) (𝓛.names.obs-res γ (Self.coded.code me)) $
        move ! (1 ∷ []) $ drop ! $
        use0 𝓛 (‵ ((Opt.the_row Lent).own_val None (live 0 vnil ∷ []))) (none_of 𝓛 Lent) $
        returns ! (look_at ! 0 refl) $ free_all ! refl $ keep ! (0 ∷ 2 ∷ 1 ∷ []) $
        suffices ! _ (ends_at 𝓛 F.ended stayed claims (At us) (live 0 vnil) None (tt, tt) (tt, tt)) $
        nothing ! $ nothing ! $ fjoin ! $ join ! $ nothing ! $ move ! (2 ∷ 0 ∷ []) $ join ! $ join ! $
        frame ! $ says ! (sym e) $ done !)
        (λ wrong. absurd wrong))
        (λ x b o h e at_b ws fits testable. rewrite ! 3 (λ (xs : List Val). ‵ (Cell xs)) ws refl $
        -- [the disk; the right to free it; the handle; the slot's cell; the open borrow; obs; auth]
        first ! $ blocks ! $
        sets ! (of_opd ! (load ! (through ! refl (fld ! refl (stop !))) (look_in ! 3 (sub ! 0 refl
        (whole !))))) refl (tt, tt) $
        sets ! (of_opd ! (get ! refl)) refl (tt, tt) $
        sets ! (bin ! (get ! refl) (lit ! tt) (tests_null (block_ptr b o) testable)) refl (tt, tt) $
        first ! $ branches ! (get ! refl)
        (λ wrong. absurd wrong)
        (λ _. let at : Val = vptr b o in
        let held : Val = live 1 (vcons at vnil) in
        sets ! (addr ! (through ! refl (stop !))) refl (tt, tt) $
        sets_last ! (agg ! (and_then ! (lit ! tt) (and_then ! (get ! refl) (no_more !)))) refl (
          tt,
          (record { fits = lit< tt }, (tt, tt)),
        ) $
        exec ! C Λ En (after 4 (inside (head (code.function).body))) Rest-of $
        sets_last ! (of_opd ! (get ! refl)) refl (tt, (record { fits = lit< tt }, (tt, tt))) $
        exec ! C Λ En (after 1 (code.function).body) (at_ret En (Post us)) $
        sets ! (of_opd ! (get ! refl)) refl (tt, (record { fits = lit< tt }, (tt, tt))) $
        move ! (1 ∷ 2 ∷ []) $ fjoin ! $ move ! (0 ∷ 2 ∷ []) $ fjoin ! $
        move ! (2 ∷ 3 ∷ 4 ∷ 1 ∷ 0 ∷ []) $ group ! 5 $
        use1 𝓛 (later (some (λ (γ' : GName). ‵ (Lent.own_val (record {
          ref_ptr = (b, o);
          ghost_name = γ';
          now = x;
        }) (at ∷ [])) ⊛ ‵ (flft κ q) ⊛ ‵ (follows Self (R E) γ γ' (with_kept me)))))
        (lends_Part 𝓛 Self (R E) (with_kept me) (named 0) κ q rb ro b o γ (sem 𝓛 (Rest b o h))
        (back b o h at_b) (Self.coded.code me) (Self.coded.code me) x) $ await ! tt $
        pick ! (λ γ'. let r : MutBor E.row.Denot = record {
          ref_ptr = (b, o);
          ghost_name = γ';
          now = x;
        } in
        split3 ! $ use1 𝓛 (‵ ((Opt.the_row Lent).own_val (Some r) (held ∷ []))) (Some-of 𝓛 Lent r at) $
        returns ! (look_at ! 0 refl) $ free_all ! refl $ keep ! (0 ∷ 1 ∷ 2 ∷ []) $
        suffices ! _ (ends_at 𝓛 F.ended stayed claims (At us) held (Some r) (tt, tt) (tt, tt)) $
        nothing ! $ nothing ! $ fjoin ! $ join ! $ nothing ! $ move ! (2 ∷ 0 ∷ []) $ join ! $ join ! $
        frame ! $ says ! (sym e) $ done !)))))

pub kept_spec : {M : Type 1} → stated.statement M
unfolding tables_of
kept_spec 𝓤 𝓛 𝓜 𝓡 wired =
    let 𝓣 : Tables 𝓤 𝓛.H = tables_of 𝓤 𝓛.H 𝓜 (tables 𝓤 𝓛.H 𝓜 𝓡 𝓡.env) in
    let c = F.clauses 𝓛 𝓜.mem 𝓡.returns in
    entered 𝓤 𝓛.H (triple_of 𝓛 F.signature (F.spec 𝓛 𝓜.mem 𝓡.returns)) 𝓣.C 𝓣.Λ F.Key.name
    code.function (code.unfolded 𝓤 𝓛.H 𝓜 𝓡 wired)
    (walk_Meets 𝓛 F.ended stayed (Goes-spent_ref 𝓛 1 (0 ∷ []) tt (plain (λ _. Self)), tt) c
    (WpFn 𝓤 𝓛.H 𝓣.C 𝓣.Λ code.function) (WpFn-mono 𝓤 𝓛.H 𝓛.laws 𝓣 code.function)
    (λ z. let a = z.0.3 in let vss = z.0.4 in
    let Rs : List RattleType = types_at (F.signature).params z.0.0 in
    let On : SProp 𝓤 = on_entry 𝓛 F.signature z.0.0 z.0.1 a vss in
    fact_use 𝓤 (Are Rs (Ises Rs) a vss) (via 𝓤 (sem 𝓛 (owns Rs a vss)) (via 𝓤 On (fst∗ 𝓤 On ((c
    z.0.0 a).requires z.1)) (snd∗ 𝓤 (alive 𝓛 F.signature z.0.0 z.0.1) (sem 𝓛 (owns Rs a vss))))
    (owns_show 𝓛 Rs (Ises Rs) (showss 𝓛 Rs) a vss)) (λ are. subst (Goes 𝓛 𝓜.mem 𝓡.returns 𝓣.C 𝓣.Λ
    z) (sym are.0.0) (walks 𝓛 𝓜.mem 𝓡.returns 𝓣.C 𝓣.Λ z))))
