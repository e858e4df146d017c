-- A page that is sent: which page of the disk it is, and its faults and values.
use Rattle.std.proofs.Common.{◌≡◌, ◌<◌, ℕ, List, [], ◌∷◌, ◌++◌, length, drop}
use Rattle.std.proofs.Common.{get_or, Bool, true, false, cond, refl, sym, ap, ◌∙◌}
use Rattle.std.specs.Prelude.{Option, Some, None, Result, Ok, Err, find, bit_and, ◌==◌}
use Rattle.std.specs.Prelude.{if◌then◌else◌}
use Rattle.std.specs.Option.{option_or, option_map, option_map_or}
use Rattle.std.proofs.lemmas.Bool.{eqb-true}
use Rattle.sg_wire.specs.declared.profile.Profile.{Profile}
use Rattle.sg_pages.specs.declared.mode_pages.mode_select.ModeSelectFault.{ModeSelectFault}
use Rattle.sg_pages.specs.declared.mode_pages.mode_select.ModeSelectFault.TheVariants.{Field}
use Rattle.sg_pages.specs.declared.mode_pages.mode_page.PageValues.{PageValues}
use Rattle.sg_pages.specs.declared.mode_pages.mode_page.ModePage.{ModePage}
use Rattle.sg_pages.specs.declared.mode_pages.mode_page.ModePage.TheVariants.{ReadWriteErrorRecovery}
use Rattle.sg_pages.specs.declared.mode_pages.mode_page.ModePage.TheVariants.{Caching, Control}
use Rattle.sg_pages.specs.declared.mode_pages.mode_page.ModePage.TheVariants.{InformationalExceptionsControl}
use Rattle.sg_pages.specs.declared.mode_pages.mode_page.ModePage.TheVariants.{LogicalBlockProvisioning}
use Rattle.sg_pages.specs.ModePage.{row_of, first_byte, page_with, pages_of, values_of, by_page}
use Rattle.sg_pages.specs.ModePage.{changeable_bits, page_bytes, page_header_length}
use Rattle.sg_pages.specs.SentValues.{with_values, with_sent}
use Rattle.sg_pages.specs.ModeSelect.{page_at, sent_first, faults_against, ignored_page_header_bits}
use Rattle.sg_pages.specs.ModeSelect.{page_faults, least, fault_at}
use Rattle.sg_pages.specs.ModeSelect.{field_faults, pointed_fields, first_fault, unless_fault}
use Rattle.sg_pages.specs.declared.mode_pages.multi_byte_field.MultiByteField.{MultiByteField}
use Rattle.sg_pages.proofs.FaultLemmas.{field}
use Rattle.sg_pages.proofs.PageHeaderLemmas.{sent_first-page_at}

-- ---- One check after another

-- the result of a check
abbrev pub checked : Option ModeSelectFault → Result (Unit {0}) ModeSelectFault
checked fault = unless_fault fault (tt {0})

-- w is the first fault that a finds, and otherwise the first fault that b finds
pub first-fails : {A : Type 0} (w a b : Option ModeSelectFault) (fault : ModeSelectFault)
    (value : A) → w ≡ option_or a b → Err fault ≡ checked a → Err fault ≡ unless_fault w value
first-fails w None b fault value e h = cc
first-fails w (Some f) b fault value e h = let same : fault ≡ f = cc in
    ap Err same ∙ sym (ap (λ o. unless_fault o value) e)

pub second-fails : {A : Type 0} (w a b : Option ModeSelectFault) (fault : ModeSelectFault)
    (value : A) → w ≡ option_or a b → Ok tt ≡ checked a → Err fault ≡ checked b → Err fault
    ≡ unless_fault w value
second-fails w None None fault value e h k = cc
second-fails w None (Some f) fault value e h k = let same : fault ≡ f = cc in
    ap Err same ∙ sym (ap (λ o. unless_fault o value) e)
second-fails w (Some f) b fault value e h k = cc

pub both-pass : {A : Type 0} (w a b : Option ModeSelectFault) (value : A) → w ≡ option_or a b
    → Ok tt ≡ checked a → Ok tt ≡ checked b → Ok value ≡ unless_fault w value
both-pass w None None value e h k = sym (ap (λ o. unless_fault o value) e)
both-pass w None (Some f) value e h k = cc
both-pass w (Some f) b value e h k = cc

-- ---- Which page is sent

-- a page has the first byte that found it
holds-at : (test : ModePage → Bool) (pages : List ModePage) (page : ModePage)
    → find test pages ≡ Some page → test page ≡ true
holds-at test [] page e = cc
holds-at test (p ∷ pages) page e = by (test p) refl e (holds-at test pages page)
  where
    by : (b : Bool) → test p ≡ b → cond b (Some p) (find test pages) ≡ Some page
        → (find test pages ≡ Some page → test page ≡ true) → test page ≡ true
    by true t e rest = let same : p ≡ page = cc in sym (ap test same) ∙ t
    by false t e rest = rest e

pub first-found : (profile : Profile) (first : ℕ) (page : ModePage) → page_with profile first ≡ Some page
    → first_byte page ≡ first
first-found profile first page e =
    eqb-true (first_byte page) first (holds-at (λ p. first_byte p == first) (pages_of profile) page e)

changeable-of : (profile : Profile) (page : ModePage)
    → values_of (changeable_bits profile) page ≡ (row_of page).changeable profile
changeable-of profile ReadWriteErrorRecovery = refl
changeable-of profile Caching = refl
changeable-of profile Control = refl
changeable-of profile InformationalExceptionsControl = refl
changeable-of profile LogicalBlockProvisioning = refl

pub changeable-row : (profile : Profile) (page : ModePage) (bits : List ℕ)
    → bits ≡ values_of (changeable_bits profile) page → bits ≡ (row_of page).changeable profile
changeable-row profile page bits e = e ∙ changeable-of profile page

-- the faults of a page that the disk has
pub known-faults : (profile : Profile) (current : PageValues) (page : ModePage) (offset : ℕ)
    (fields : List MultiByteField) (expected list : List ℕ)
    → page_with profile (bit_and (get_or list offset 0) 0x7F) ≡ Some page
    → fields ≡ pointed_fields profile (row_of page).fields
    → expected ≡ values_of current page
    → field_faults fields (page_bytes page expected)
    (ignored_page_header_bits page ++ (row_of page).changeable profile) (page_at offset list)
    ≡ page_faults profile current (page_at offset list)
known-faults profile current page offset fields expected list found at f =
    let sent = page_at offset list in
    let own = pointed_fields profile (row_of page).fields in
    let mask = ignored_page_header_bits page ++ (row_of page).changeable profile in
    ap (λ (k : List MultiByteField). field_faults k (page_bytes page expected) mask sent) at
    ∙ (ap (λ (v : List ℕ). field_faults own (page_bytes page v) mask sent) f
    ∙ sym (ap (λ o. option_map_or (faults_against profile current sent) o (offset ∷ []))
    (ap (page_with profile) (sent_first-page_at offset list) ∙ found)))

-- its values
own-header : (values : PageValues) (page : ModePage) (bytes : List ℕ)
    → with_values values page (drop (page_header_length page) bytes)
    ≡ by_page (λ p. if first_byte page == first_byte p then drop (page_header_length p) bytes
    else values_of values p)
own-header values ReadWriteErrorRecovery bytes = refl
own-header values Caching bytes = refl
own-header values Control bytes = refl
own-header values InformationalExceptionsControl bytes = refl
own-header values LogicalBlockProvisioning bytes = refl

pub known-values : (profile : Profile) (values : PageValues) (page : ModePage) (offset : ℕ)
    (list bytes : List ℕ)
    → page_with profile (bit_and (get_or list offset 0) 0x7F) ≡ Some page
    → bytes ≡ drop (page_header_length page) (page_at offset list).bytes
    → with_values values page bytes ≡ with_sent values (page_at offset list)
known-values profile values page offset list bytes found e =
    let sent = page_at offset list in
    let same : first_byte page ≡ sent_first sent =
    first-found profile (bit_and (get_or list offset 0) 0x7F) page found
    ∙ sym (sent_first-page_at offset list) in
    ap (with_values values page) e
    ∙ (own-header values page sent.bytes
    ∙ ap (λ (k : ℕ). by_page (λ p. if k == first_byte p then drop (page_header_length p) sent.bytes
    else values_of values p)) same)

-- a page that the disk does not have
pub unknown-page : (profile : Profile) (current : PageValues) (offset : ℕ) (list : List ℕ)
    → offset < length list → page_with profile (bit_and (get_or list offset 0) 0x7F) ≡ None
    → first_fault (length list) (page_faults profile current (page_at offset list))
    ≡ Some (Field offset)
unfolding first_fault
unknown-page profile current offset list h none =
    let sent = page_at offset list in
    ap (λ o. option_map (fault_at (length list))
    (least (option_map_or (faults_against profile current sent) o (offset ∷ []))))
    (ap (page_with profile) (sent_first-page_at offset list) ∙ none)
    ∙ ap Some (field (length list) offset h)
