-- The changes of an accepted list.
use Rattle.std.proofs.Common.{◌≡◌, ℕ, ◌+◌, List, [], ◌∷◌, ◌++◌, length, drop, Bool, true, false}
use Rattle.std.proofs.Common.{cond, refl, sym, ap, Option, ◌∙◌, map, suc, arith}
use Rattle.std.specs.Prelude.{None, Result, Ok, Err, bit_or, unwrap_or, ◌==◌}
use Rattle.std.specs.List.{flat_map}
use Rattle.std.specs.Option.{option_map_or}
use Rattle.std.specs.Result.{result_map_both}
use Rattle.std.proofs.lemmas.Bool.{eq-eqb, eqb-true}
use Rattle.std.proofs.lemmas.List.{drop-drop}
use Rattle.sg_wire.specs.declared.profile.Profile.{Profile}
use Rattle.sg_wire.specs.declared.profile.Profile.TheVariants.{Base, Extended}
use Rattle.sg_wire.specs.declared.command.mode.CdbWidth.{CdbWidth}
use Rattle.sg_pages.specs.declared.mode_pages.mode_page.ModePage.{ModePage}
use Rattle.sg_pages.specs.declared.mode_pages.mode_page.ModePage.TheVariants.{ReadWriteErrorRecovery}
use Rattle.sg_pages.specs.declared.mode_pages.mode_page.ModePage.TheVariants.{Caching, Control}
use Rattle.sg_pages.specs.declared.mode_pages.mode_page.ModePage.TheVariants.{InformationalExceptionsControl}
use Rattle.sg_pages.specs.declared.mode_pages.mode_page.ModePage.TheVariants.{LogicalBlockProvisioning}
use Rattle.sg_pages.specs.declared.mode_pages.mode_page.PageValues.{PageValues}
use Rattle.sg_pages.specs.declared.mode_pages.mode_select.ModeSelectFault.{ModeSelectFault}
use Rattle.sg_pages.specs.ModePage.{ModeState, row_of, first_byte, has_page, page_with, values_of}
use Rattle.sg_pages.specs.ModePage.{by_page, page_bytes, page_header, page_header_length}
use Rattle.sg_pages.specs.ModeSelect.{Part, sent_first, differences, truncation_of, faults_against}
use Rattle.sg_pages.specs.ModeSelect.{ignored_page_header_bits}
use Rattle.sg_pages.specs.ModeSelect.{page_faults, header_faults, descriptor_faults, list_faults}
use Rattle.sg_pages.specs.ModeSelect.{pages_in, first_fault, unless_fault, last_sent, values_after}
use Rattle.sg_pages.specs.ModeSelect.{selected_values, saved_after}
use Rattle.sg_pages.specs.ModeLaws.{EachPageIsFound, OnlyChangeableBitsChange}
use Rattle.sg_pages.proofs.FaultLemmas.{differences-nil}
use Rattle.sg_pages.proofs.PageHeaderLemmas.{mask-length}
use Rattle.sg_pages.proofs.SentPagesLemmas.{last_sent-cons}

-- ---- Lists without offsets

starts-nil : (xs ys : List ℕ) → xs ++ ys ≡ [] → xs ≡ []
starts-nil [] ys e = refl
starts-nil (x ∷ xs) ys e = cc

ends-nil : (xs ys : List ℕ) → xs ++ ys ≡ [] → ys ≡ []
ends-nil [] ys e = e
ends-nil (x ∷ xs) ys e = cc

unmapped : (f : ℕ → ℕ) (xs : List ℕ) → map f xs ≡ [] → xs ≡ []
unmapped f [] e = refl
unmapped f (x ∷ xs) e = cc

differences-self : (offset : ℕ) (xs ignored : List ℕ) → differences offset xs ignored xs ≡ []
differences-self offset [] ignored = refl
differences-self offset (x ∷ xs) [] = refl
differences-self offset (x ∷ xs) (i ∷ ignored) =
    let rest = differences (offset + 1) xs ignored xs in
    ap (λ c. cond c rest (offset ∷ rest)) (eq-eqb (bit_or x i) (bit_or x i) refl)
    ∙ differences-self (offset + 1) xs ignored

-- without a difference the offset does not matter
differences-at : (m n : ℕ) (expected ignored xs : List ℕ) → differences m expected ignored xs ≡ []
    → differences n expected ignored xs ≡ []
differences-at m n [] ignored xs e = refl
differences-at m n (o ∷ expected) [] xs e = refl
differences-at m n (o ∷ expected) (i ∷ ignored) [] e = refl
differences-at m n (o ∷ expected) (i ∷ ignored) (x ∷ xs) e =
    by (bit_or x i == bit_or o i) e (differences-at (m + 1) (n + 1) expected ignored xs)
  where
    by : (c : Bool)
        → (let r = differences (m + 1) expected ignored xs in cond c r (m ∷ r) ≡ [])
        → (differences (m + 1) expected ignored xs ≡ []
        → differences (n + 1) expected ignored xs ≡ [])
        → (let r = differences (n + 1) expected ignored xs in cond c r (n ∷ r) ≡ [])
    by true e k = k e
    by false e k = cc

-- after the first byte
tail-nil : (offset o i : ℕ) (expected ignored xs : List ℕ)
    → differences offset (o ∷ expected) (i ∷ ignored) xs ≡ []
    → differences (offset + 1) expected ignored (drop 1 xs) ≡ []
tail-nil offset o i expected ignored [] e = differences-nil (offset + 1) expected ignored
tail-nil offset o i expected ignored (x ∷ xs) e = by (bit_or x i == bit_or o i) e
  where
    by : (c : Bool)
        → (let r = differences (offset + 1) expected ignored xs in cond c r (offset ∷ r) ≡ [])
        → differences (offset + 1) expected ignored xs ≡ []
    by true e = e
    by false e = cc

-- after the first piece
piece-nil : (offset : ℕ) (head more ignored others bytes : List ℕ) → length ignored ≡ length head
    → differences offset (head ++ more) (ignored ++ others) bytes ≡ []
    → differences (length head) more others (drop (length head) bytes) ≡ []
piece-nil offset [] more [] others bytes same e = differences-at offset 0 more others bytes e
piece-nil offset [] more (i ∷ ignored) others bytes same e = absurd (omega arith)
piece-nil offset (h ∷ head) more [] others bytes same e = absurd (omega arith)
piece-nil offset (h ∷ head) more (i ∷ ignored) others bytes same e =
    let k = length head in
    let rest = piece-nil (offset + 1) head more ignored others (drop 1 bytes) (omega arith)
    (tail-nil offset h i (head ++ more) (ignored ++ others) bytes e) in
    let far : 1 + k ≡ suc k = omega arith in
    ap (λ n. differences (suc k) more others (drop n bytes)) (sym far)
    ∙ (ap (differences (suc k) more others) (sym (drop-drop k 1 bytes))
    ∙ differences-at k (suc k) more others (drop k (drop 1 bytes)) rest)

-- ---- The values of a page

-- they differ only in bits that can be changed
abbrev Kept : Profile → PageValues → ModePage → List ℕ → Type 0
Kept profile current page values =
    differences (page_header_length page) (values_of current page) ((row_of page).changeable profile) values
    ≡ []

sent-kept : (profile : Profile) (current : PageValues) (sent : Part) (page : ModePage)
    → faults_against profile current sent page ≡ []
    → Kept profile current page (drop (page_header_length page) sent.bytes)
unfolding page_bytes
sent-kept profile current sent page e =
    let own = values_of current page in
    let mask = ignored_page_header_bits page in
    let all = differences sent.offset (page_header page ++ own) (mask ++ (row_of page).changeable profile)
    sent.bytes in
    piece-nil sent.offset (page_header page) own mask ((row_of page).changeable profile) sent.bytes
    (mask-length page) (unmapped _ all (starts-nil _ (truncation_of sent) e))

-- the first byte of a page names this page, or no page if the disk does not have it
pub page-found : EachPageIsFound
page-found profile ReadWriteErrorRecovery h = refl
page-found profile Caching h = refl
page-found profile Control h = refl
page-found profile InformationalExceptionsControl h = refl
page-found Base LogicalBlockProvisioning h = cc
page-found Extended LogicalBlockProvisioning h = refl

not-found : (profile : Profile) (page : ModePage) → has_page profile page ≡ false
    → page_with profile (first_byte page) ≡ None
not-found profile ReadWriteErrorRecovery h = cc
not-found profile Caching h = cc
not-found profile Control h = cc
not-found profile InformationalExceptionsControl h = cc
not-found Base LogicalBlockProvisioning h = refl
not-found Extended LogicalBlockProvisioning h = cc

known-kept : (profile : Profile) (current : PageValues) (sent : Part) (page : ModePage)
    → page_faults profile current sent ≡ [] → (sent_first sent == first_byte page) ≡ true
    → Kept profile current page (drop (page_header_length page) sent.bytes)
known-kept profile current sent page e same = by (has_page profile page) refl
  where
    at : Option ModePage → List ℕ
    at o = option_map_or (faults_against profile current sent) o (sent.offset ∷ [])

    named : page_with profile (sent_first sent) ≡ page_with profile (first_byte page)
    named = ap (page_with profile) (eqb-true (sent_first sent) (first_byte page) same)

    not-nil : (sent.offset ∷ []) ≡ [] → ⊥
    not-nil none = cc

    by : (c : Bool) → has_page profile page ≡ c
        → Kept profile current page (drop (page_header_length page) sent.bytes)
    by true there =
        sent-kept profile current sent page (sym (ap at (named ∙ page-found profile page there)) ∙ e)
    by false none = absurd (not-nil (sym (ap at (named ∙ not-found profile page none)) ∙ e))

next-kept : (profile : Profile) (current : PageValues) (sent : Part) (page : ModePage) (values : List ℕ)
    → page_faults profile current sent ≡ [] → Kept profile current page values
    → Kept profile current page
    (cond (sent_first sent == first_byte page) (drop (page_header_length page) sent.bytes) values)
next-kept profile current sent page values e k = by (sent_first sent == first_byte page) refl
  where
    by : (c : Bool) → (sent_first sent == first_byte page) ≡ c
        → Kept profile current page (cond c (drop (page_header_length page) sent.bytes) values)
    by true same = known-kept profile current sent page e same
    by false other = k

last-kept : (profile : Profile) (current : PageValues) (page : ModePage) (parts : List Part) (values : List ℕ)
    → flat_map (page_faults profile current) parts ≡ [] → Kept profile current page values
    → Kept profile current page (unwrap_or (last_sent page parts) values)
last-kept profile current page [] values e k = k
last-kept profile current page (sent ∷ parts) values e k =
    let others = flat_map (page_faults profile current) parts in
    let next =
    cond (sent_first sent == first_byte page) (drop (page_header_length page) sent.bytes) values in
    ap (differences (page_header_length page) (values_of current page) ((row_of page).changeable profile))
    (last_sent-cons page sent parts values)
    ∙ last-kept profile current page parts next (ends-nil (page_faults profile current sent) others e)
    (next-kept profile current sent page values (starts-nil (page_faults profile current sent) others e) k)

of-rule : (rule : ModePage → List ℕ) (page : ModePage) → values_of (by_page rule) page ≡ rule page
of-rule rule ReadWriteErrorRecovery = refl
of-rule rule Caching = refl
of-rule rule Control = refl
of-rule rule InformationalExceptionsControl = refl
of-rule rule LogicalBlockProvisioning = refl

-- ---- A list that is accepted

no-fault : (n : ℕ) (offsets : List ℕ) (values after : PageValues)
    → unless_fault (first_fault n offsets) values ≡ Ok after → (offsets ≡ []) × (values ≡ after)
unfolding first_fault
no-fault n [] values after e = (refl, cc)
no-fault n (offset ∷ offsets) values after e = absurd (cc)

values-kept : (current after : PageValues) (width : CdbWidth) (blocks : Option ℕ)
    (profile : Profile) (list : List ℕ) (page : ModePage)
    → selected_values current width blocks profile list ≡ Ok after
    → Kept profile current page (values_of after page)
unfolding selected_values
values-kept current after width blocks profile list page e = by (length list == 0) e
  where
    own : List ℕ
    own = values_of current page

    mask : List ℕ
    mask = (row_of page).changeable profile

    start : ℕ
    start = page_header_length page

    parts : List Part
    parts = pages_in width list

    all : List ℕ
    all = list_faults current width blocks profile list

    to : (values : PageValues) → values ≡ after → Kept profile current page (values_of values page)
        → Kept profile current page (values_of after page)
    to values same k =
        ap (λ (v : PageValues). differences start own mask (values_of v page)) (sym same) ∙ k

    by : (c : Bool)
        → cond c (Ok current) (unless_fault (first_fault (length list) all) (values_after current parts))
        ≡ Ok after → Kept profile current page (values_of after page)
    by true e =
        let same : current ≡ after = cc in
        to current same (differences-self start own mask)
    by false e =
        let none = no-fault (length list) all (values_after current parts) after e in
        let pages = flat_map (page_faults profile current) parts in
        let behind =
        ends-nil (header_faults width list) (descriptor_faults width blocks profile list ++ pages)
        none.0 in
        let sent = ends-nil (descriptor_faults width blocks profile list) pages behind in
        let rule : ModePage → List ℕ =
        λ p. unwrap_or (last_sent p parts) (values_of current p) in
        to (values_after current parts) none.1
        (ap (differences start own mask) (of-rule rule page)
        ∙ last-kept profile current page parts own sent (differences-self start own mask))

selected-ok : (save : Bool) (before after : ModeState) (r : Result PageValues ModeSelectFault)
    → result_map_both (saved_after save before) (λ fault. fault) r ≡ Ok after
    → r ≡ Ok after.current
selected-ok save before after (Ok values) e =
    let same : saved_after save before values ≡ after = cc in
    ap (λ (s : ModeState). Ok s.current) same
selected-ok save before after (Err fault) e = cc

pub only_changeable : OnlyChangeableBitsChange
only_changeable before after list width save blocks profile page e =
    values-kept before.current after.current width blocks profile list page
    (selected-ok save before after (selected_values before.current width blocks profile list) e)
