-- What words ask for is well formed.
use Rattle.std.proofs.Common.{◌≡◌, ◌≢◌, ◌<◌, ◌≤◌, ◌-◌, ℕ, List, [], ◌∷◌, Bool, true, false, length}
use Rattle.std.proofs.Common.{Option, Some, None, Result, Err, IfOk, IfSome, refl, sym, ap, ◌∙◌, arith}
use Rattle.std.specs.List.{list_all}
use Rattle.std.specs.Str.{bytes_eq}
use Rattle.std.specs.Prelude.{codes, if◌then◌else◌, nat_le, nat_lt, not, ok_or, option_map}
use Rattle.std.specs.Prelude.{option_and_then, unwrap_or}
use Rattle.std.proofs.lemmas.Bool.Decides.{nat_tests}
use Rattle.std.proofs.lemmas.List.{get_or-replicate, get_or-set_same, length-set}
use Rattle.sg_store.specs.Disk.{max_capacity}
use Rattle.sg_units.specs.Initiators.{Members, all_initiators, is_member, no_initiators, with_member}
use Rattle.sg_units.specs.declared.unit_attention.UnitAttention.{UnitAttention}
use Rattle.sg_faults.specs.declared.outcome.Outcome.{Outcome as FaultOutcome}
use Rattle.sg_target.specs.Config.{is_between}
use Rattle.sg_target.specs.declared.happening.Happening.{Happening}
use Rattle.sg_target.specs.declared.happening.Happening.TheVariants as happening
use Rattle.sg_tools.specs.Number.{at_most, number_of, number_up_to}
use Rattle.sg_run.specs.FaultOptions.{and_option, blocks_option, extent_by, is_blocks, is_healed}
use Rattle.sg_run.specs.FaultOptions.{most_blocks, most_commands, no_options, number_between}
use Rattle.sg_run.specs.FaultOptions.{operand_option, operation_code_of, options_of, unless_given}
use Rattle.sg_run.specs.FaultOptions.{with_option}
use Rattle.sg_run.specs.FaultVerbs.{arming_by, fault_of, fault_with, heal_of, outcome_of}
use Rattle.sg_run.specs.FaultVerbs.{outcome_with, takes_operand}
use Rattle.sg_run.specs.HappeningText.{asked_by, by_verb_words, happening_of_text}
use Rattle.sg_run.specs.HappeningVerbs.{and_initiator, attention_of, condition_named, condition_words}
use Rattle.sg_run.specs.HappeningVerbs.{establishing, grow_of, growing, initiators_of, nexus_of}
use Rattle.sg_run.specs.HappeningVerbs.{power_of, reset_of}
use Rattle.sg_wire.specs.Initiator.{initiator_count}
use Rattle.sg_wire.specs.declared.profile.Profile.TheVariants.{Extended}
use Rattle.sg_run.specs.InitiatorWord.{initiator_of}
use Rattle.sg_run.specs.Limits.{word_limit}
use Rattle.sg_run.specs.Request.{is_allowed}
use Rattle.sg_run.specs.Verbs.{happening_of, verb_named, verbs_of}
use Rattle.sg_run.specs.Words.{words}
use Rattle.sg_run.specs.declared.request.fault_options.FaultOption.{FaultOption}
use Rattle.sg_run.specs.declared.request.fault_options.FaultOption.TheVariants as option
use Rattle.sg_run.specs.declared.request.fault_options.FaultOptions.{FaultOptions}
use Rattle.sg_run.specs.declared.request.happening_text.HappeningFault.{HappeningFault}
use Rattle.sg_run.specs.declared.request.happening_text.HappeningFault.TheVariants as refused
use Rattle.sg_run.specs.declared.request.happening_verb.HappeningVerb.{HappeningVerb}
use Rattle.sg_run.specs.declared.request.happening_verb.HappeningVerb.TheVariants as verb
use Rattle.sg_run.specs.WellFormed.{AreMembers, IsWellFormed, IsWellFormedFault}

-- ---- Values that may be missing

either : {A : Type 0} (P : A → Type 0) (test : Bool) (x y : Option A)
    → IfSome x P → IfSome y P → IfSome (if test then x else y) P
either P true x y has-x has-y = has-x
either P false x y has-x has-y = has-y

mapped : {A B : Type 0} (P : A → Type 0) (Q : B → Type 0) (f : A → B) → ((a : A) → P a → Q (f a))
    → (x : Option A) → IfSome x P → IfSome (option_map f x) Q
mapped P Q f goes None has = tt
mapped P Q f goes (Some a) has = goes a has

-- ---- Words

limited : (n limit : ℕ) (test : Bool) → nat_le n limit ≡ test
    → IfSome (if test then Some n else None) (λ m. m ≤ limit)
limited n limit true is = grind (arith, nat_tests)
limited n limit false is = tt

within-limit : (limit : ℕ) (number : Option ℕ) → IfSome (at_most limit number) (λ n. n ≤ limit)
within-limit limit None = tt
within-limit limit (Some n) = limited n limit (nat_le n limit) refl

below-count : (number : Option ℕ) → IfSome number (λ n. n ≤ initiator_count - 1)
    → IfSome number (λ n. n < initiator_count)
below-count None has = tt
below-count (Some n) has = omega (arith, has)

initiator-below : (word : List ℕ) → IfSome (initiator_of Extended word) (λ i. i < initiator_count)
initiator-below word = below-count (number_up_to (initiator_count - 1) word)
    (within-limit (initiator_count - 1) (number_of word))

at-least : (low n : ℕ) (test : Bool) → nat_le low n ≡ test
    → IfSome (if test then Some n else None) (λ m. low ≤ m)
at-least low n true is = grind (arith, nat_tests)
at-least low n false is = tt

from-low : (low : ℕ) (number : Option ℕ)
    → IfSome (option_and_then (λ n. if nat_le low n then Some n else None) number) (λ n. low ≤ n)
from-low low None = tt
from-low low (Some n) = at-least low n (nat_le low n) refl

above-0 : (number : Option ℕ) → IfSome number (λ n. 1 ≤ n) → IfSome number (λ n. 0 < n)
above-0 None has = tt
above-0 (Some n) has = omega (arith, has)

positive : (high : ℕ) (word : List ℕ) → IfSome (number_between 1 high word) (λ n. 0 < n)
positive high word = above-0 (number_between 1 high word) (from-low 1 (number_up_to high word))

-- ---- Initiators

abbrev IsNamed : Members → Type 0
IsNamed members = AreMembers members × (members ≢ no_initiators)

with-mask : (members : Members) (initiator : ℕ) → AreMembers members
    → AreMembers (with_member members initiator)
with-mask members initiator has = length-set members initiator true ∙ has

nobody-else : (initiator : ℕ) → initiator < initiator_count → is_member no_initiators initiator ≡ false
nobody-else initiator below = get_or-replicate initiator_count initiator false false below

with-somebody : (members : Members) (initiator : ℕ) → initiator < initiator_count → AreMembers members
    → with_member members initiator ≢ no_initiators
with-somebody members initiator below has same =
    let there : is_member (with_member members initiator) initiator ≡ true =
    get_or-set_same members initiator true false (omega (arith, has, below)) in
    let nowhere = nobody-else initiator below in
    let both = sym there ∙ (ap (λ m. is_member m initiator) same ∙ nowhere) in
    absurd cc

all-named : IsNamed all_initiators
all-named = (refl, λ same. let both = ap (λ m. is_member m 0) same in absurd cc)

one-more : (initiator : Option ℕ) (others : Option Members) → IfSome others AreMembers
    → IfSome (and_initiator initiator others) AreMembers
one-more None others has = tt
one-more (Some initiator) None has = tt
one-more (Some initiator) (Some others) has = with-mask others initiator has

all-masked : (words : List (List ℕ)) → IfSome (initiators_of words) AreMembers
unfolding initiators_of
all-masked [] = refl
all-masked (word ∷ words) = one-more (initiator_of Extended word) (initiators_of words) (all-masked words)

-- ---- The options of a fault

record HasFields (options : FaultOptions) : Type 0 where
  initiators : IfSome options.initiators IsNamed
  blocks : IfSome options.blocks (λ extent. 0 < extent.count)
  times : IfSome options.times (λ n. 0 < n)

abbrev HasOperand : FaultOption → Type 0
HasOperand (option.To initiator) = initiator < initiator_count
HasOperand (option.Blocks extent) = 0 < extent.count
HasOperand (option.Times n) = 0 < n
HasOperand other = Unit

no-fields : HasFields no_options
no-fields = record { initiators = tt; blocks = tt; times = tt }

unless : {A : Type 0} (given : Option A) (options : FaultOptions) → HasFields options
    → IfSome (unless_given given options) HasFields
unless None options has = has
unless (Some a) options has = tt

others-masked : (others : Option Members) → IfSome others IsNamed
    → AreMembers (unwrap_or others no_initiators)
others-masked None has = refl
others-masked (Some members) has = has.0

named-with : (others : Option Members) (initiator : ℕ) → initiator < initiator_count → IfSome others IsNamed
    → IsNamed (with_member (unwrap_or others no_initiators) initiator)
named-with others initiator below has =
    let masked = others-masked others has in (
      with-mask (unwrap_or others no_initiators) initiator masked,
      with-somebody (unwrap_or others no_initiators) initiator below masked,
    )

-- what is known of the fields does not speak of these
free-fields : (options : FaultOptions) (code skip : Option ℕ) (healed : Bool) → HasFields options
    → HasFields (record options { code = code; skip = skip; is_healed = healed })
free-fields options code skip healed has =
    record { initiators = has.initiators; blocks = has.blocks; times = has.times }

with-fields : (options : FaultOptions) (o : FaultOption) → HasFields options → HasOperand o
    → IfSome (with_option options o) HasFields
with-fields options (option.To initiator) has below = record {
  initiators = named-with options.initiators initiator below has.initiators;
  blocks = has.blocks;
  times = has.times;
}
with-fields options (option.Code code) has operand =
    unless options.code _ (free-fields options (Some code) options.skip options.is_healed has)
with-fields options (option.Blocks extent) has operand = unless options.blocks _ (record {
  initiators = has.initiators;
  blocks = operand;
  times = has.times;
})
with-fields options option.Healed has operand =
    either HasFields options.is_healed None _ tt
    (free-fields options options.code options.skip true has)
with-fields options (option.Skip n) has operand =
    unless options.skip _ (free-fields options options.code (Some n) options.is_healed has)
with-fields options (option.Times n) has operand = unless options.times _ (record {
  initiators = has.initiators;
  blocks = has.blocks;
  times = operand;
})

and-fields : (o : Option FaultOption) (others : Option FaultOptions) → IfSome o HasOperand
    → IfSome others HasFields → IfSome (and_option o others) HasFields
and-fields None others operand has = tt
and-fields (Some o) None operand has = tt
and-fields (Some o) (Some others) operand has = with-fields others o has operand

any-code : (code : Option ℕ) → IfSome (option_map (λ n. option.Code n) code) HasOperand
any-code None = tt
any-code (Some code) = tt

any-skip : (skip : Option ℕ) → IfSome (option_map (λ n. option.Skip n) skip) HasOperand
any-skip None = tt
any-skip (Some skip) = tt

abbrev times_option : (name operand : List ℕ) → Option FaultOption
times_option name operand =
    if bytes_eq name (codes "times")
    then option_map (λ n. option.Times n) (number_between 1 most_commands operand) else None

abbrev skip_option : (name operand : List ℕ) → Option FaultOption
skip_option name operand =
    if bytes_eq name (codes "skip")
    then option_map (λ n. option.Skip n) (number_up_to most_commands operand)
    else times_option name operand

abbrev code_option : (name operand : List ℕ) → Option FaultOption
code_option name operand =
    if bytes_eq name (codes "code")
    then option_map (λ code. option.Code code) (operation_code_of operand)
    else skip_option name operand

of-times : (name operand : List ℕ) → IfSome (times_option name operand) HasOperand
of-times name operand =
    either HasOperand (bytes_eq name (codes "times"))
    (option_map (λ n. option.Times n) (number_between 1 most_commands operand)) None
    (mapped (λ n. 0 < n) HasOperand (λ n. option.Times n) (λ n some. some)
    (number_between 1 most_commands operand) (positive most_commands operand))
    tt

of-skip : (name operand : List ℕ) → IfSome (skip_option name operand) HasOperand
of-skip name operand =
    either HasOperand (bytes_eq name (codes "skip"))
    (option_map (λ n. option.Skip n) (number_up_to most_commands operand)) (times_option name operand)
    (any-skip (number_up_to most_commands operand)) (of-times name operand)

of-code : (name operand : List ℕ) → IfSome (code_option name operand) HasOperand
of-code name operand =
    either HasOperand (bytes_eq name (codes "code"))
    (option_map (λ code. option.Code code) (operation_code_of operand)) (skip_option name operand)
    (any-code (operation_code_of operand)) (of-skip name operand)

of-operand : (name operand : List ℕ) → IfSome (operand_option name operand) HasOperand
of-operand name operand =
    either HasOperand (bytes_eq name (codes "to"))
    (option_map (λ i. option.To i) (initiator_of Extended operand)) (code_option name operand)
    (mapped (λ i. i < initiator_count) HasOperand (λ i. option.To i) (λ i below. below)
    (initiator_of Extended operand) (initiator-below operand))
    (of-code name operand)

of-extent : (lba count : Option ℕ) → IfSome count (λ n. 0 < n)
    → IfSome (extent_by lba count) (λ extent. 0 < extent.count)
of-extent None count some = tt
of-extent (Some lba) None some = tt
of-extent (Some lba) (Some count) some = some

of-blocks : (lba count : List ℕ) → IfSome (blocks_option lba count) HasOperand
of-blocks lba count =
    mapped (λ extent. 0 < extent.count) HasOperand (λ extent. option.Blocks extent) (λ extent some. some)
    _ (of-extent (number_of lba) (number_between 1 most_blocks count) (positive most_blocks count))

of-options : (words : List (List ℕ)) → IfSome (options_of words) HasFields
unfolding options_of
of-options [] = no-fields
of-options (name ∷ []) = either HasFields (is_healed name) _ None
    (and-fields (Some option.Healed) (Some no_options) tt no-fields) tt
of-options (name ∷ word ∷ []) = either HasFields (is_healed name) _ _
    (and-fields (Some option.Healed) (options_of (word ∷ [])) tt (of-options (word ∷ [])))
    (and-fields (operand_option name word) (Some no_options) (of-operand name word) no-fields)
of-options (name ∷ word ∷ next ∷ words) = either HasFields (is_healed name) _ _
    (and-fields (Some option.Healed) (options_of (word ∷ next ∷ words)) tt
    (of-options (word ∷ next ∷ words)))
    (either HasFields (is_blocks name) _ _
    (and-fields (blocks_option word next) (options_of words) (of-blocks word next) (of-options words))
    (and-fields (operand_option name word) (options_of (next ∷ words)) (of-operand name word)
    (of-options (next ∷ words))))

-- ---- Faults

named-or-all : (initiators : Option Members) → IfSome initiators IsNamed
    → IsNamed (unwrap_or initiators all_initiators)
named-or-all None has = all-named
named-or-all (Some members) has = has

a-fault : (outcome : FaultOutcome) (options : FaultOptions) → HasFields options
    → IsWellFormedFault (fault_with outcome options)
a-fault outcome options has =
    let named = named-or-all options.initiators has.initiators in
    record {
      initiators = named.0;
      somebody = named.1;
      some_block = mapped (λ extent. 0 < extent.count) (λ bad. 0 < bad.extent.count) _
          (λ extent some. some) options.blocks has.blocks;
      some_time = has.times;
    }

an-armed : (outcome : Option FaultOutcome) (options : Option FaultOptions) → IfSome options HasFields
    → IfSome (arming_by outcome options) IsWellFormed
an-armed None options has = tt
an-armed (Some outcome) None has = tt
an-armed (Some outcome) (Some options) has =
    either IsWellFormed _ None (Some (happening.Arm (fault_with outcome options))) tt
    (a-fault outcome options has)

of-fault : (words : List (List ℕ)) → IfSome (fault_of words) IsWellFormed
of-fault [] = tt
of-fault (place ∷ []) = tt
of-fault (place ∷ what ∷ []) = an-armed (outcome_of place what) (options_of []) (of-options [])
of-fault (place ∷ what ∷ next ∷ words) =
    either IsWellFormed (takes_operand what) _ _
    (an-armed (outcome_with place what next) (options_of words) (of-options words))
    (an-armed (outcome_of place what) (options_of (next ∷ words)) (of-options (next ∷ words)))

-- ---- The other verbs

of-power : (operands : List (List ℕ)) → IfSome (power_of operands) IsWellFormed
of-power [] = tt
of-power (word ∷ words) = tt

of-reset : (operands : List (List ℕ)) → IfSome (reset_of operands) IsWellFormed
of-reset [] = tt
of-reset (word ∷ []) = either IsWellFormed _ (Some happening.TargetReset) None tt tt
of-reset (word ∷ next ∷ words) = tt

of-nexus : (operands : List (List ℕ)) → IfSome (nexus_of operands) IsWellFormed
of-nexus [] = tt
of-nexus (word ∷ []) =
    mapped (λ i. i < initiator_count) IsWellFormed (λ i. happening.NexusLoss i) (λ i below. below)
    (initiator_of Extended word) (initiator-below word)
of-nexus (word ∷ next ∷ words) = tt

in-range : (blocks : ℕ) (test : Bool) → is_between 1 blocks max_capacity ≡ test
    → IfSome (if test then Some (happening.Grow blocks) else None) IsWellFormed
in-range blocks true is = is
in-range blocks false is = tt

grown : (blocks : Option ℕ) → IfSome (option_and_then growing blocks) IsWellFormed
grown None = tt
grown (Some blocks) = in-range blocks (is_between 1 blocks max_capacity) refl

of-grow : (operands : List (List ℕ)) → IfSome (grow_of operands) IsWellFormed
of-grow [] = tt
of-grow (word ∷ []) = grown (number_of word)
of-grow (word ∷ next ∷ words) = tt

established : (condition : Option UnitAttention) (initiators : Option Members)
    → IfSome initiators AreMembers → IfSome (establishing condition initiators) IsWellFormed
established None initiators has = tt
established (Some condition) None has = tt
established (Some condition) (Some members) has = has

of-attention : (operands : List (List ℕ)) → IfSome (attention_of operands) IsWellFormed
of-attention [] = tt
of-attention (code ∷ []) =
    established (condition_named condition_words code) (Some all_initiators) refl
of-attention (code ∷ first ∷ others) =
    established (condition_named condition_words code) (initiators_of (first ∷ others))
    (all-masked (first ∷ others))

of-heal : (operands : List (List ℕ)) → IfSome (heal_of operands) IsWellFormed
of-heal [] = tt
of-heal (word ∷ []) =
    mapped (λ n. n ≤ 7) IsWellFormed (λ n. happening.Disarm n) (λ n few. omega (arith, few))
    (number_up_to 7 word) (within-limit 7 (number_of word))
of-heal (word ∷ next ∷ words) = tt

of-verb : (v : HappeningVerb) (operands : List (List ℕ)) → IfSome (happening_of v operands) IsWellFormed
of-verb verb.Power operands = of-power operands
of-verb verb.Reset operands = of-reset operands
of-verb verb.Nexus operands = of-nexus operands
of-verb verb.Grow operands = of-grow operands
of-verb verb.Attention operands = of-attention operands
of-verb verb.Fault operands = of-fault operands
of-verb verb.Heal operands = of-heal operands

-- ---- A text

or-usage : (asked : Option Happening) → IfSome asked IsWellFormed
    → IfOk (ok_or asked refused.Usage) IsWellFormed
or-usage None has = tt
or-usage (Some happening) has = has

of-named : (v : Option HappeningVerb) (operands : List (List ℕ)) → IfOk (asked_by v operands) IsWellFormed
of-named None operands = tt
of-named (Some v) operands = or-usage (happening_of v operands) (of-verb v operands)

of-words : (words : List (List ℕ)) → IfOk (by_verb_words words) IsWellFormed
of-words [] = tt
of-words (v ∷ operands) = of-named (verb_named (verbs_of Extended) v) operands

unless-refused : (test : Bool) (x y : Result Happening HappeningFault) → IfOk x IsWellFormed
    → IfOk y IsWellFormed → IfOk (if test then x else y) IsWellFormed
unless-refused true x y has-x has-y = has-x
unless-refused false x y has-x has-y = has-y

pub well-formed : (text : List ℕ) → IfOk (happening_of_text text) IsWellFormed
unfolding happening_of_text
well-formed text =
    let too_many = nat_lt word_limit (length (words text)) in
    let asked = by_verb_words (words text) in
    unless-refused (not (list_all is_allowed text)) (Err refused.BadByte)
    (if too_many then Err refused.TooManyWords else asked) tt
    (unless-refused too_many (Err refused.TooManyWords) asked tt (of-words (words text)))
