-- The pages of a list, one after the other.
use Rattle.std.proofs.Common.{◌≡◌, ◌≤◌, ◌<◌, ℕ, zero, suc, ◌+◌, List, [], ◌∷◌, ◌++◌, length, drop}
use Rattle.std.proofs.Common.{Bool, true, false, cond, refl, sym, ap, ◌∙◌, arith, reverse}
use Rattle.std.specs.Prelude.{Option, Some, None, Ok, Err, find, unwrap_or, nat_lt, ◌==◌}
use Rattle.std.specs.Prelude.{if◌then◌else◌}
use Rattle.std.specs.List.{flat_map}
use Rattle.std.specs.Option.{option_or, option_map, option_map_or}
use Rattle.std.proofs.lemmas.Bool.{lt-ltb, le-ltb}
use Rattle.std.proofs.lemmas.List.{reverse-append}
use Rattle.std.proofs.lemmas.List.Folds.{find-append}
use Rattle.sg_pages.specs.declared.mode_pages.mode_select.ModeSelectFault.{ModeSelectFault}
use Rattle.sg_wire.specs.declared.profile.Profile.{Profile}
use Rattle.sg_pages.specs.declared.mode_pages.mode_page.PageValues.{PageValues}
use Rattle.sg_pages.specs.declared.mode_pages.mode_page.ModePage.{ModePage}
use Rattle.sg_pages.specs.declared.mode_pages.mode_page.ModePage.TheVariants.{ReadWriteErrorRecovery}
use Rattle.sg_pages.specs.declared.mode_pages.mode_page.ModePage.TheVariants.{Caching, Control}
use Rattle.sg_pages.specs.declared.mode_pages.mode_page.ModePage.TheVariants.{InformationalExceptionsControl}
use Rattle.sg_pages.specs.declared.mode_pages.mode_page.ModePage.TheVariants.{LogicalBlockProvisioning}
use Rattle.sg_pages.specs.ModePage.{row_of, first_byte, page_with, page_data, page_header_length}
use Rattle.sg_pages.specs.ModeSelect.{Part, page_at, pages_up_to, pages_from, sent_first}
use Rattle.sg_pages.specs.ModeSelect.{ignored_page_header_bits}
use Rattle.sg_pages.specs.ModeSelect.{faults_against, page_faults, first_fault, unless_fault}
use Rattle.sg_pages.specs.ModeSelect.{pointed_fields, last_sent, values_after}
use Rattle.sg_pages.specs.SentValues.{with_sent}
use Rattle.sg_pages.proofs.FaultLemmas.{From, Below, From-append, From-weaker, first_fault-append}
use Rattle.sg_pages.proofs.FieldLemmas.{field_faults-from, field_faults-below}
use Rattle.sg_pages.proofs.PageHeaderLemmas.{size-some}

-- ---- The next page

pages_up_to-end : (n offset : ℕ) (list : List ℕ) → length list ≤ offset → pages_up_to n offset list
    ≡ []
pages_up_to-end zero offset list h = refl
pages_up_to-end (suc n) offset list h =
    ap (λ c. cond c (page_at offset list ∷ pages_up_to n (offset + (page_at offset list).size) list)
    []) (le-ltb offset (length list) h)

-- more turns than are needed change nothing
enough : (n m offset : ℕ) (list : List ℕ) → length list ≤ offset + n → length list ≤ offset + m
    → pages_up_to n offset list ≡ pages_up_to m offset list
enough zero m offset list h k = sym (pages_up_to-end m offset list (omega arith))
enough (suc n) zero offset list h k = pages_up_to-end (suc n) offset list (omega arith)
enough (suc n) (suc m) offset list h k =
    let next = offset + (page_at offset list).size in
    let some = size-some (drop offset list) in
    ap (λ rest. cond (nat_lt offset (length list)) (page_at offset list ∷ rest) [])
    (enough n m next list (omega (arith, some)) (omega (arith, some)))

pub pages_from-end : (offset : ℕ) (list : List ℕ) → length list ≤ offset → pages_from offset list
    ≡ []
unfolding pages_from
pages_from-end offset list h = pages_up_to-end (length list) offset list h

pub pages_from-next : (offset : ℕ) (list : List ℕ) → offset < length list → pages_from offset list
    ≡ page_at offset list ∷ pages_from (offset + (page_at offset list).size) list
unfolding pages_from
pages_from-next offset [] h = absurd (omega arith)
pages_from-next offset (x ∷ xs) h =
    let list = x ∷ xs in
    let next = offset + (page_at offset list).size in
    let some = size-some (drop offset list) in
    ap (λ c. cond c (page_at offset list ∷ pages_up_to (length xs) next list) [])
    (lt-ltb offset (length list) h)
    ∙ ap (λ rest. page_at offset list ∷ rest)
    (enough (length xs) (length list) next list (omega (arith, some)) (omega (arith, some)))

-- ---- The places of their faults

against-from : (profile : Profile) (current : PageValues) (offset : ℕ) (list : List ℕ)
    → (o : Option ModePage) →
    From offset (option_map_or (faults_against profile current (page_at offset list)) o (offset ∷ []))
against-from profile current offset list None = (omega arith, tt)
against-from profile current offset list (Some p) =
    field_faults-from (pointed_fields profile (row_of p).fields) (page_data current p)
    (ignored_page_header_bits p ++ (row_of p).changeable profile) offset (page_at offset list).size list

against-below : (profile : Profile) (current : PageValues) (offset : ℕ) (list : List ℕ)
    → (o : Option ModePage) →
    Below (offset + (page_at offset list).size)
    (option_map_or (faults_against profile current (page_at offset list)) o (offset ∷ []))
against-below profile current offset list None = (omega (arith, size-some (drop offset list)), tt)
against-below profile current offset list (Some p) =
    field_faults-below (pointed_fields profile (row_of p).fields) (page_data current p)
    (ignored_page_header_bits p ++ (row_of p).changeable profile) offset (page_at offset list).size list

pub page_faults-from : (profile : Profile) (current : PageValues) (offset : ℕ) (list : List ℕ)
    → From offset (page_faults profile current (page_at offset list))
page_faults-from profile current offset list =
    against-from profile current offset list (page_with profile (sent_first (page_at offset list)))

pub page_faults-below : (profile : Profile) (current : PageValues) (offset : ℕ) (list : List ℕ)
    → Below (offset + (page_at offset list).size) (page_faults profile current (page_at offset list))
page_faults-below profile current offset list =
    against-below profile current offset list (page_with profile (sent_first (page_at offset list)))

up_to-from : (profile : Profile) (current : PageValues) (n offset : ℕ) (list : List ℕ)
    → From offset (flat_map (page_faults profile current) (pages_up_to n offset list))
up_to-from profile current zero offset list = tt
up_to-from profile current (suc n) offset list =
    let sent = page_at offset list in
    let next = offset + sent.size in
    go (nat_lt offset (length list))
    (From-append offset (page_faults profile current sent)
    (flat_map (page_faults profile current) (pages_up_to n next list))
    (page_faults-from profile current offset list)
    (From-weaker next offset _ (omega arith) (up_to-from profile current n next list)))
  where
    go : (c : Bool) → From offset (page_faults profile current (page_at offset list) ++ flat_map
        (page_faults profile current) (pages_up_to n (offset + (page_at offset list).size) list)) →
        From offset (flat_map (page_faults profile current)
        (cond c (page_at offset list ∷ pages_up_to n (offset + (page_at offset list).size) list)
        []))
    go true h = h
    go false h = tt

pub pages_from-from : (profile : Profile) (current : PageValues) (offset : ℕ) (list : List ℕ)
    → From offset (flat_map (page_faults profile current) (pages_from offset list))
unfolding pages_from
pages_from-from profile current offset list = up_to-from profile current (length list) offset list

-- ---- One page more

-- its faults come first
pub next-faults : (profile : Profile) (current : PageValues) (offset : ℕ) (list : List ℕ)
    → offset < length list →
    first_fault (length list) (flat_map (page_faults profile current) (pages_from offset list))
    ≡ option_or (first_fault (length list) (page_faults profile current (page_at offset list)))
    (first_fault (length list) (flat_map (page_faults profile current)
    (pages_from (offset + (page_at offset list).size) list)))
next-faults profile current offset list h =
    let sent = page_at offset list in
    let next = offset + sent.size in
    ap (λ pages. first_fault (length list) (flat_map (page_faults profile current) pages))
    (pages_from-next offset list h)
    ∙ first_fault-append (length list) next (page_faults profile current sent)
    (flat_map (page_faults profile current) (pages_from next list))
    (page_faults-below profile current offset list)
    (pages_from-from profile current next list)

-- its values stay if no later page is the same
later : (k : ℕ) (o : Option Part) (p : Part) (b : Bool) (v : List ℕ) →
    unwrap_or (option_map (λ (q : Part). drop k q.bytes) (option_or o (cond b (Some p) None))) v
    ≡ unwrap_or (option_map (λ (q : Part). drop k q.bytes) o) (cond b (drop k p.bytes) v)
later k None p true v = refl
later k None p false v = refl
later k (Some q) p b v = refl

pub last_sent-cons : (page : ModePage) (p : Part) (ps : List Part) (v : List ℕ) →
    unwrap_or (last_sent page (p ∷ ps)) v
    ≡ unwrap_or (last_sent page ps)
    (if sent_first p == first_byte page then drop (page_header_length page) p.bytes else v)
last_sent-cons page p ps v =
    let k = page_header_length page in
    let test : Part → Bool = λ q. sent_first q == first_byte page in
    ap (λ found. unwrap_or (option_map (λ (q : Part). drop k q.bytes) found) v)
    (ap (find test) (reverse-append (p ∷ []) ps) ∙ find-append test (reverse ps) (p ∷ []))
    ∙ later k (find test (reverse ps)) p (test p) v

same_values : (a b c d e p q r s t : List ℕ) → a ≡ p → b ≡ q → c ≡ r → d ≡ s → e ≡ t →
    (let x : PageValues = record {
      error_recovery = a;
      caching = b;
      control = c;
      exceptions_control = d;
      provisioning = e;
    } in let y : PageValues = record {
      error_recovery = p;
      caching = q;
      control = r;
      exceptions_control = s;
      provisioning = t;
    } in x ≡ y)
same_values a b c d e p q r s t f g h i j = cc

pub values_after-cons : (values : PageValues) (p : Part) (ps : List Part)
    → values_after values (p ∷ ps) ≡ values_after (with_sent values p) ps
values_after-cons values p ps =
    same_values _ _ _ _ _ _ _ _ _ _
    (last_sent-cons ReadWriteErrorRecovery p ps values.error_recovery)
    (last_sent-cons Caching p ps values.caching) (last_sent-cons Control p ps values.control)
    (last_sent-cons InformationalExceptionsControl p ps values.exceptions_control)
    (last_sent-cons LogicalBlockProvisioning p ps values.provisioning)

pub next-values : (values : PageValues) (offset : ℕ) (list : List ℕ) → offset < length list →
    values_after values (pages_from offset list)
    ≡ values_after (with_sent values (page_at offset list))
    (pages_from (offset + (page_at offset list).size) list)
next-values values offset list h = ap (values_after values) (pages_from-next offset list h)
    ∙ values_after-cons values (page_at offset list)
    (pages_from (offset + (page_at offset list).size) list)

-- ---- What a check answers

pub unless-ok : {A : Type 0} (o : Option ModeSelectFault) (x v : A) → Ok x ≡ unless_fault o v
    → (o ≡ None) × (x ≡ v)
unless-ok None x v h = (refl, cc)
unless-ok (Some f) x v h = absurd (cc)

pub unless-err : {A : Type 0} (o : Option ModeSelectFault) (fault : ModeSelectFault) (v : A)
    → Err fault ≡ unless_fault o v → o ≡ Some fault
unless-err None fault v h = cc
unless-err (Some f) fault v h = cc

-- the first of two fails
pub fails : {A : Type 0} (w a b : Option ModeSelectFault) (fault : ModeSelectFault) (v : A) → w
    ≡ option_or a b → a ≡ Some fault → Err fault ≡ unless_fault w v
fails w a b fault v e h = sym (ap (λ o. unless_fault o v) (e ∙ ap (λ o. option_or o b) h))

-- past the last page
pub no-page : (profile : Profile) (current values : PageValues) (offset first : ℕ) (list : List ℕ)
    → length list ≤ offset →
    first_fault (length list) (flat_map (page_faults profile current) (pages_from offset list))
    ≡ first_fault (length list) (flat_map (page_faults profile current) (pages_from first list)) →
    values_after values (pages_from offset list) ≡ values_after current (pages_from first list) →
    Ok values ≡ unless_fault (first_fault (length list)
    (flat_map (page_faults profile current) (pages_from first list)))
    (values_after current (pages_from first list))
unfolding first_fault
no-page profile current values offset first list h faults kept =
    let none : first_fault (length list) (flat_map (page_faults profile current) (pages_from first list))
    ≡ None =
    sym faults ∙ ap (λ pages. first_fault (length list) (flat_map (page_faults profile current) pages))
    (pages_from-end offset list h) in
    let same : values ≡ values_after current (pages_from first list) =
    sym (ap (values_after values) (pages_from-end offset list h)) ∙ kept in
    ap Ok same ∙ sym (ap (λ o. unless_fault o (values_after current (pages_from first list))) none)
