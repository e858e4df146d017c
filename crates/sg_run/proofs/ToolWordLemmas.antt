-- The words of a tool.
use Rattle.std.proofs.Common.{◌≡◌, ◌≤◌, ◌<◌, ℕ, ◌-◌, List, [], ◌∷◌, length, map, take, drop}
use Rattle.std.proofs.Common.{Bor, Option, Some, Result, Ok, Err, true, refl, sym, ap, ◌∙◌, arith}
use Rattle.std.proofs.Common.{inl, inr}
use Rattle.std.specs.List.{list_all}
use Rattle.std.proofs.lemmas.List.{length-drop, length-map, length-take, take_all}
use Rattle.std.specs.List.{drop-map}
use Rattle.sg_tools.specs.GivenOptions.{IsUnlessOutOfMemory}
use Rattle.sg_tools.specs.Requests.{request, Request as ToolRequest}
use Rattle.sg_tools.specs.declared.tool.Tool.{Tool}
use Rattle.sg_tools.specs.declared.tool_fault.ToolFault.TheVariants as tool_fault
use Rattle.sg_tools.specs.declared.tool_name.ToolName.{ToolName}
use Rattle.sg_wire.specs.declared.profile.Profile.{Profile}
use Rattle.sg_wire.specs.declared.profile.Profile.TheVariants.{Extended}
use Rattle.sg_run.specs.Limits.{word_limit}
use Rattle.sg_run.specs.Request.{first_tool, is_allowed, named_tool, tool_line}
use Rattle.sg_run.specs.ToolText.{IsReadUnlessOutOfMemory, asked_of, in_text, names_tool, tool_of_text}
use Rattle.sg_run.specs.Words.{tool_words, words}
use Rattle.sg_run.specs.declared.request.text_fault.TextFault.{TextFault}
use Rattle.sg_run.proofs.RequestLemmas.{few-words}

-- ---- the first of them is the name of the tool

first-take : (profile : Profile) (tool : List (List ℕ))
    → first_tool profile (take 5 tool) ≡ first_tool profile tool
first-take profile [] = refl
first-take profile (word ∷ words) = refl

-- of the words that are kept
pub name_of : (profile : Profile) (initiator : ℕ) (name : Option ToolName) (kept tool : List (List ℕ))
    → name ≡ first_tool profile kept → kept ≡ take 5 tool
    → named_tool initiator name tool ≡ tool_line profile initiator tool
name_of profile initiator name kept tool is same =
    ap (λ n. named_tool initiator n tool) (is ∙ (ap (first_tool profile) same ∙ first-take profile tool))

-- ---- all of them, as texts

-- the words after the first kept word
abbrev pub others : List (Bor (List ℕ)) → List (Bor (List ℕ))
others kept = take (length kept - 1) (drop 1 kept)

pub kept-fit : (text : List ℕ) (kept : List (Bor (List ℕ)))
    → map (λ word. word.now) kept ≡ take 64 (words text) → length kept ≤ word_limit
kept-fit text kept same =
    let now : Bor (List ℕ) → List ℕ = λ word. word.now in
    omega (arith, ap length same, length-map kept now, length-take 64 (words text))

pub others-fit : (text : List ℕ) (kept : List (Bor (List ℕ)))
    → map (λ word. word.now) kept ≡ take 64 (words text) → length (others kept) ≤ word_limit
others-fit text kept same =
    omega (
      arith,
      kept-fit text kept same,
      length-take (length kept - 1) (drop 1 kept),
      length-drop 1 kept,
    )

pub texts-fit : (kept texts : List (Bor (List ℕ))) (k : ℕ)
    → map (λ t. t.now) texts ≡ map (λ word. word.now) (take k kept)
    → length kept ≤ word_limit → k < length kept → length texts < 64
texts-fit kept texts k so_far few within =
    let now : Bor (List ℕ) → List ℕ = λ word. word.now in
    omega (
      arith,
      ap length so_far,
      length-map texts now,
      length-map (take k kept) now,
      length-take k kept,
    )

pub all-others : (text : List ℕ) (kept : List (Bor (List ℕ)))
    → map (λ word. word.now) kept ≡ take 64 (words text) → length (words text) ≤ word_limit
    → map (λ word. word.now) (others kept) ≡ tool_words text
all-others text kept same few =
    let now : Bor (List ℕ) → List ℕ = λ word. word.now in
    let rest : List (Bor (List ℕ)) = drop 1 kept in
    ap (map now) (take_all (length kept - 1) rest (omega (arith, length-drop 1 kept)))
    ∙ (sym (drop-map now 1 kept)
    ∙ ap (drop 1) (same ∙ take_all 64 (words text) few))

-- ---- the request of a text

pub asked-in_text : (text : List ℕ) (kept : List (List ℕ)) (name : ToolName)
    → list_all is_allowed text ≡ true → length (words text) ≤ word_limit → kept ≡ words text
    → first_tool Extended kept ≡ Some name → tool_of_text text ≡ in_text (request name kept)
unfolding tool_of_text
asked-in_text text kept name allowed few same named =
    rw (allowed, few-words (length (words text)) few)
    (ap (λ n. asked_of n (words text)) (ap (first_tool Extended) (sym same) ∙ named)
    ∙ ap (λ ws. in_text (request name ws)) (sym same))

names-in_text : (asked : ToolRequest) → names_tool (in_text asked) ≡ true
names-in_text (Ok tool) = refl
names-in_text (Err fault) = refl

-- a tool returns the request of its text, or memory was refused
pub read-in_text : (text : List ℕ) (result : Result Tool TextFault) (expected parsed : ToolRequest)
    → result ≡ in_text parsed → IsUnlessOutOfMemory expected parsed
    → tool_of_text text ≡ in_text expected → IsReadUnlessOutOfMemory text result
read-in_text text result wanted (Ok tool) r is w = inl (r ∙ (ap in_text (sym is) ∙ sym w))
read-in_text text result wanted (Err tool_fault.OutOfMemory) r is w =
    inr (r, ap names_tool w ∙ names-in_text wanted)
read-in_text text result wanted (Err tool_fault.Usage) r is w =
    inl (r ∙ (ap in_text (sym is) ∙ sym w))
read-in_text text result wanted (Err tool_fault.Number) r is w =
    inl (r ∙ (ap in_text (sym is) ∙ sym w))
read-in_text text result wanted (Err tool_fault.Exclusive) r is w =
    inl (r ∙ (ap in_text (sym is) ∙ sym w))
