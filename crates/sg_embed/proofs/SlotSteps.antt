-- The steps of the proofs of a slot: what it owns, by its two cases.
use Rattle.std.proofs.Common.{◌≡◌, ℕ, List, [], ◌∷◌, ◌++◌, refl, subst, lit<}
use lib.Dec.{T}
use seplogic.Ra.Ura.{Ura}
use mir.Syntax.{impl, tnil, dnil}
use mir.Raw.{raw as bare}
use mir.Val.{Val, vnull, vstruct, vcons, vnil, of_list, has_ty, WT}
use base.Logic.{ent, guard, guard_i}
use types.Logic.{Logic, sem}
use types.Kit.{Item, Goal, Seq, Step, step, ‵, given, ◌$◌, move, drop, fsplit, fjoin, fpick, fpack}
use types.Kit.{feq_i, feq_l, use1, learn}
use contract.Monad.{fact_use}
use denote.RattleType.{RattleType, Valss}
use denote.RawPtr.{Ptr, block_ptr, null_ptr, ptr_val, Testable}
use denote.Memory.{part_at}
use base.Fraction.{full_share}
use denote.Steps.{nothing}
use denote.Struct.Struct.{within}
use denote.Struct.Owning.{shape, to, fields}
use Rattle.std.specs.declared.option.Option.{Option}
use Rattle.std.specs.declared.option.Option.TheVariants.{None, Some}
use Rattle.std.specs.declared.alloc.Global.{Global}
use Rattle.std.specs.contracts.alloc.Global as Heap
use Rattle.std.specs.contracts.impls.GlobalAllocator.TheImpl.{ghosts, dict}
use Rattle.std.proofs.alloc.Global.TheLaws as heap
use Rattle.std.proofs.GlobalToken.{dealloc_token-Testable}
use Rattle.std.proofs.ResultValues.{and_tt}
use Rattle.std.proofs.alloc.Calls.{α, Fits, handle_tells}
use Rattle.std.proofs.BoxSteps.Form.{Bx, R, τ, box_ty, word}
use Rattle.std.proofs.BoxSteps.Steps.{box_out}
use Rattle.sg_embed.specs.contracts.kept.Kept as kept
use Rattle.sg_embed.proofs.kept.Kept.TheLaws as kept-laws
use Rattle.sg_embed.specs.contracts.parts.Parts as parts
use Rattle.sg_embed.specs.contracts.slot.Slot as slot

-- A box of the disk, by the C library's allocator.
abbrev pub E : Bx
E = record {
  row = kept.the_row;
  laws = kept-laws.the_row_laws;
  al = record {
    row = Heap.the_row;
    laws = heap.the_row_laws;
    g = ghosts;
    d = dict;
    drops = impl []
        tnil dnil;
  };
}

abbrev pub Parted : RattleType
Parted = parts.the_row kept.the_row Heap.the_row ghosts

-- The machine's value of an empty slot.
abbrev pub bare_word : Val → Val
bare_word h = vstruct (vcons vnull (vcons h vnil))

pub bare_typed : (h : Val) → Fits E.al h → T (has_ty (box_ty E) (bare_word h)) × WT (bare_word h)
bare_typed h fits = (and_tt (has_ty (α E.al) h) fits.0, (record { fits = lit< tt }, (fits.1, tt)))

module _ {M : Type 1} {𝓤 : Ura M} (𝓛 : Logic 𝓤) where
  -- A pointer that may be freed may be compared with null.
  pub tested : (a : Global) (p : Ptr) → ent 𝓤 (sem 𝓛 (ghosts.dealloc_token a (bare (τ E)) p))
      (guard 𝓤 (Testable p) (sem 𝓛 (ghosts.dealloc_token a (bare (τ E)) p)))
  tested a p = fact_use 𝓤 (Testable p) (dealloc_token-Testable 𝓛 a (bare (τ E)) p) (guard_i 𝓤
      (Testable p) _)

module _ {M : Type 1} {𝓤 : Ura M} {𝓛 : Logic 𝓤} {K : Type 0} {Γ : List (Item 𝓤)} {G : Goal 𝓤 𝓛.H}
  where
    -- An empty slot is null beside the allocator's handle.
    pub bare_in : K → (a : Global) (h : Val)
        → Step K 𝓛 (‵ (slot.the_row.own_val (record { at = null_ptr; alloc = a; held = None })
        (bare_word h ∷ [])) ∷ Γ) G
        (‵ (Heap.the_row.own_val a (h ∷ [])) ∷ Γ) G
    bare_in t a h = step (λ s.
        feq_i t Ptr null_ptr null_ptr refl $ nothing t $ move t (2 ∷ 0 ∷ []) $ fjoin t $
        feq_i t (List Val) (vnull ∷ []) (vnull ∷ []) refl $ fjoin t $
        feq_i t (List Val) (bare_word h ∷ []) (bare_word h ∷ []) refl $ fjoin t $
        fpack t (Valss (fields slot.the_type)) (within (shape slot.the_type)
        (to slot.the_type (record { at = null_ptr; alloc = a; held = None })) (bare_word h ∷ []))
        (vnull ∷ [], (h ∷ [], tt)) $ fjoin t $ s)

    -- A slot is empty, or what a box owns.
    pub slot_out : K → (p : Ptr) (a : Global) (k : Option E.row.Denot) (vs : List Val)
        → ((h : Val) → k ≡ None → p ≡ null_ptr → vs ≡ bare_word h ∷ [] → Fits E.al h
        → Seq K 𝓛 (‵ (Heap.the_row.own_val a (h ∷ [])) ∷ Γ) G)
        → ((x : E.row.Denot) (b o : ℕ) (h : Val) → k ≡ Some x → p ≡ block_ptr b o
        → vs ≡ word E h b o ∷ [] → Fits E.al h → Testable (block_ptr b o)
        → Seq K 𝓛 (‵ (part_at (R E) full_share x b o)
        ∷ ‵ (ghosts.dealloc_token a (bare (τ E)) (block_ptr b o))
        ∷ ‵ (Heap.the_row.own_val a (h ∷ [])) ∷ Γ) G)
        → Seq K 𝓛 (‵ (slot.the_row.own_val (record { at = p; alloc = a; held = k }) vs) ∷ Γ) G
    slot_out t p a None vs none some =
        fsplit t $ fpick t (λ vss. fsplit t $ feq_l t (λ ev. fsplit t $ feq_l t (λ ep. fsplit t $
        handle_tells E.al t a vss.1.0 (λ h ea fits. move t (1 ∷ []) $ drop t $ move t (1 ∷ []) $
        feq_l t (λ is_null.
        none h refl is_null
        (subst (λ (q : Ptr). vs ≡ vstruct (of_list (ptr_val q ∷ h ∷ [])) ∷ []) is_null
        (subst (λ (ws : List Val). vs ≡ vstruct (of_list (ptr_val p ∷ (ws ++ []))) ∷ []) ea
        (subst (λ (ps : List Val). vs ≡ vstruct (of_list (ps ++ (vss.1.0 ++ [])))
        ∷ []) ep ev))) fits)))))
    slot_out t p a (Some x) vs none some =
        box_out E t (record { ptr = p; alloc = a; value = x }) vs (λ b o h e ws fits. move t (1
        ∷ []) $
        use1 𝓛 (given (Testable (block_ptr b o)) (‵ (ghosts.dealloc_token a (bare (τ E)) (block_ptr b
        o)))) (tested 𝓛 a (block_ptr b o)) $
        learn t (λ testable. move t (1 ∷ 0 ∷ []) $ some x b o h refl e ws fits testable))
