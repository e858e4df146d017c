-- `into_parts` tests the pointer, and what the slot owned goes into the parts.
use Rattle.std.proofs.Common.{◌≡◌, ℕ, List, [], ◌∷◌, ◌++◌, refl, sym, subst, lit<}
use seplogic.Ra.Ura.{Ura}
use base.Fraction.{full_share}
use mir.Raw.{raw as bare}
use mir.Val.{Val, vcons, vnil}
use base.Logic.{SProp, ent, emp, id⊢}
use base.Fml.{ftrue, fsep}
use prog.Memory.{Memory}
use prog.Routine.{Routine}
use prog.Wp.{WpFn, Tables}
use types.Logic.{Logic}
use contract.Monad.{Fun}
use contract.Running.{tables, tables_of}
use sound.WpLaws.{WpFn-mono}
use types.Kit.{Item, at_ret, ‵, raw, ◌⊛◌, ◌$◌, ◌∵◌, !, qed, by, move, drop, keep, use0, use1, join}
use types.Kit.{split, fsplit, fjoin, suffices, done}
use types.Match.{live}
use types.Part.{whole, sub, agg}
use types.Run.{stop, fld, lit, bin, no_more, and_then, of_opd, first, branches, exec, returns}
use types.Run.{enter}
use types.ByLocal.{alloc_all, pass_all, free_all, look_at, get, get_in, sets, sets_last, env}
use denote.Exit.{yes}
use denote.Memory.{part_at}
use denote.Param.{layout}
use denote.RawPtr.{block_ptr, tests_null, Testable}
use denote.RattleType.{RattleType}
use denote.Signature.{plain, type_at}
use denote.Steps.{nothing}
use denote.Triple.Spec.{triple_of}
use denote.Triple.Table.{entered}
use denote.Triple.Walked.{says, Stays, stay_dropped, walk_of, ends_at, Goes-dropped, walk_Meets}
use Rattle.std.specs.declared.option.Option.TheVariants.{None, Some}
use Rattle.std.specs.contracts.alloc.Global as Heap
use Rattle.std.specs.contracts.impls.GlobalAllocator.TheImpl.{ghosts}
use Rattle.std.proofs.alloc.Calls.{Fits}
use Rattle.std.proofs.alloc.Shapes.{after}
use Rattle.std.proofs.cell.Inside.{Good}
use Rattle.std.proofs.option.Made.{Some-of, none_of}
use Rattle.std.proofs.ResultValues.{and_tt}
use Rattle.std.proofs.BoxSteps.Form.{D, R, τ, word, box_typed}
use Rattle.std.proofs.BoxSteps.Steps.{box_in}
use Rattle.sg_embed.specs.contracts.slot.Slot as slot
use Rattle.sg_embed.proofs.SlotSteps.{E, Parted, bare_word, bare_typed, slot_out}
use Rattle.sg_embed.specs.contracts.slot.Slot.into_parts as F
use Rattle.sg_embed.proofs.slot.Slot.into_parts.Statement as stated
use Rattle.sg_embed.proofs.slot.Slot.into_parts.Code as code

abbrev stayed : Stays (F.ended).signature.params (F.ended).kept
stayed = (stay_dropped (plain (λ _. slot.the_row)) yes, tt)

module _ {M : Type 1} {𝓤 : Ura M} (𝓛 : Logic 𝓤) (at_mem : Memory → SProp 𝓤) (run : Routine
    → Fun 𝓤) (𝓣 : Tables 𝓤 𝓛.H) where
  open 𝓛 use {H}

  module _ (z : (walk_of 𝓛 F.ended stayed (F.clauses 𝓛 at_mem run)).Ghost) where
    abbrev Post : Val → SProp 𝓤
    Post = (walk_of 𝓛 F.ended stayed (F.clauses 𝓛 at_mem run)).post z

    abbrev Runs : List Val → SProp 𝓤
    Runs vs = WpFn 𝓤 H 𝓣.C 𝓣.Λ code.function (vs ++ []) Post

    abbrev Out : RattleType
    Out = type_at (F.signature).result tt

    -- None, at null
    without : (h : Val) → z.0.3.0.held ≡ None → Fits E.al h
        → ent 𝓤 (types.Kit.⋆ 𝓛 (‵ (Heap.the_row.own_val z.0.3.0.alloc (h ∷ []))
        ∷ [])) (Runs (bare_word h ∷ []))
    without h e fits =
        qed 𝓛 (‵ (Heap.the_row.own_val z.0.3.0.alloc (h ∷ [])) ∷ []) ∵ drop ! $
        enter ! 𝓣.C 𝓣.Λ code.function (bare_word h ∷ []) _ $
        alloc_all ! (λ l. pass_all ! refl (bare_typed h fits, tt) $
        sets ! (of_opd ! (get_in ! (fld ! refl (stop !)) (sub ! 0 refl (whole !)))) refl (
          tt,
          record { fits = lit< tt },
        ) $
        sets ! (of_opd ! (get_in ! (fld ! refl (stop !)) (sub ! 1 refl (whole !)))) refl fits $
        sets ! (bin ! (get ! refl) (lit ! tt) tt) refl (tt, tt) $ first ! $ branches ! (get ! refl)
        (λ _. sets_last ! (agg ! (and_then ! (lit ! tt) (no_more !))) refl (
          tt,
          (record { fits = lit< tt }, tt),
        ) $
        exec ! 𝓣.C 𝓣.Λ (env (code.function).locals l) (after 4 (code.function).body) (at_ret _
        Post) $
        sets ! (of_opd ! (get ! refl)) refl (tt, (record { fits = lit< tt }, tt)) $
        use0 𝓛 (‵ (Out.own_val None (live 0 vnil ∷ []))) (none_of 𝓛 Parted) $
        returns ! (look_at ! 0 refl) $ free_all ! refl $
        suffices ! _ (ends_at 𝓛 F.ended stayed (F.clauses 𝓛 at_mem run) z (live 0 vnil) None (
          tt,
          tt,
        ) (tt, tt)) $ says ! (sym e) $
        nothing ! $ nothing ! $ fjoin ! $ join ! $ nothing ! $ join ! $ done !)
        (λ wrong. absurd wrong))

    -- Some, at a block
    module _ (x : E.row.Denot) (b o : ℕ) (h : Val) where
      abbrev Held : List (Item 𝓤)
      Held = ‵ (part_at (R E) full_share x b o)
          ∷ ‵ (ghosts.dealloc_token z.0.3.0.alloc (bare (τ E)) (block_ptr b o))
          ∷ ‵ (Heap.the_row.own_val z.0.3.0.alloc (h ∷ [])) ∷ []

      within : z.0.3.0.held ≡ Some x → Fits E.al h → Testable (block_ptr b o)
          → ent 𝓤 (types.Kit.⋆ 𝓛 Held) (Runs (word E h b o ∷ []))
      within e fits testable =
          let d : D E = record { ptr = block_ptr b o; alloc = z.0.3.0.alloc; value = x } in
          let made : Parted.Denot = record { at = block_ptr b o; alloc = z.0.3.0.alloc; value = x }
          in
          let w = word E h b o in let some : Val = live 1 (vcons w vnil) in
          let typed = box_typed E h b o fits in
          let some_typed : Good (layout Out) some = (
            and_tt _ typed.0,
            (
              record { fits = lit< tt },
              (typed.1, tt),
            ),
          ) in
          qed 𝓛 Held ∵ enter ! 𝓣.C 𝓣.Λ code.function (w ∷ []) _ $
          alloc_all ! (λ l. pass_all ! refl (typed, tt) $
          sets ! (of_opd ! (get_in ! (fld ! refl (stop !)) (sub ! 0 refl (whole !)))) refl (
            tt,
            tt,
          ) $
          sets ! (of_opd ! (get_in ! (fld ! refl (stop !)) (sub ! 1 refl (whole !)))) refl fits $
          sets ! (bin ! (get ! refl) (lit ! tt) (tests_null (block_ptr b o) testable)) refl (
            tt,
            tt,
          ) $ first ! $ branches ! (get ! refl)
          (λ wrong. absurd wrong)
          (λ _. sets ! (of_opd ! (get ! refl)) refl (tt, tt) $
          sets ! (agg ! (and_then ! (get ! refl) (and_then ! (get ! refl) (no_more !)))) refl typed
          $
          sets_last ! (agg ! (and_then ! (lit ! tt) (and_then ! (get ! refl) (no_more !)))) refl
          some_typed $
          exec ! 𝓣.C 𝓣.Λ (env (code.function).locals l) (after 4 (code.function).body) (at_ret _
          Post) $
          sets ! (of_opd ! (get ! refl)) refl some_typed $
          box_in E ! d b o x refl refl $ use1 𝓛 (‵ (Parted.own_val made (w ∷ []))) (id⊢ 𝓤 _) $
          use1 𝓛 (‵ (Out.own_val (Some made) (some ∷ []))) (Some-of 𝓛 Parted made w) $
          returns ! (look_at ! 0 refl) $ free_all ! refl $
          suffices ! _ (ends_at 𝓛 F.ended stayed (F.clauses 𝓛 at_mem run) z some (Some made) (
            tt,
            tt,
          ) (tt, tt)) $ says ! (sym e) $
          nothing ! $ nothing ! $ fjoin ! $ join ! $ nothing ! $ join ! $ done !))

    walk : ent 𝓤 ((walk_of 𝓛 F.ended stayed (F.clauses 𝓛 at_mem run)).pre z) (Runs z.0.4.0)
    walk =
        let s = z.0.3.0 in
        qed 𝓛 ((‵ ftrue ⊛ ‵ (fsep (slot.the_row.own_val s z.0.4.0) ftrue)) ∷ raw (emp 𝓤)
        ∷ []) ∵ split ! $ drop ! $ fsplit ! $
        slot_out ! s.at s.alloc s.held z.0.4.0
        (λ h e _ ws fits. move ! (1 ∷ 2 ∷ []) $ drop ! $ drop ! $
        by ! (subst (λ (us : List Val). ent 𝓤 (types.Kit.⋆ 𝓛 (‵ (Heap.the_row.own_val s.alloc (h
        ∷ [])) ∷ [])) (Runs us)) (sym ws) (without h e fits)))
        (λ x b o h e _ ws fits testable. move ! (3 ∷ 4 ∷ []) $ drop ! $ drop ! $
        by ! (subst (λ (us : List Val). ent 𝓤 (types.Kit.⋆ 𝓛 (Held x b o h)) (Runs us)) (sym ws)
        (within x b o h e fits testable)))

pub into_parts_spec : {M : Type 1} → stated.statement M
unfolding tables_of
into_parts_spec 𝓤 𝓛 𝓜 𝓡 wired =
    let 𝓣 : Tables 𝓤 𝓛.H = tables_of 𝓤 𝓛.H 𝓜 (tables 𝓤 𝓛.H 𝓜 𝓡 𝓡.env) in
    entered 𝓤 𝓛.H (triple_of 𝓛 F.signature (F.spec 𝓛 𝓜.mem 𝓡.returns)) 𝓣.C 𝓣.Λ F.Key.name
    code.function
    (code.unfolded 𝓤 𝓛.H 𝓜 𝓡 wired)
    (walk_Meets 𝓛 F.ended stayed (
      Goes-dropped 𝓛 0 (plain (λ _. slot.the_row)) yes (λ κs x f.
          refl),
      tt,
    )
    (F.clauses 𝓛 𝓜.mem 𝓡.returns) (WpFn 𝓤 𝓛.H 𝓣.C 𝓣.Λ code.function) (WpFn-mono 𝓤 𝓛.H 𝓛.laws 𝓣
    code.function)
    (walk 𝓛 𝓜.mem 𝓡.returns 𝓣))
