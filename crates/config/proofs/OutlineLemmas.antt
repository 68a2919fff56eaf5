-- The lines of a text, what is known after some of them, and which fault is reported of several.
use Rattle.std.proofs.Common.{◌≡◌, ◌≢◌, ℕ, ◌+◌, ◌<◌, Bool, true, false, cond, List, [], ◌∷◌, ◌++◌, length, take, drop, get_or, refl, ap, subst, sym, ◌∙◌, arith, add-one, length-drop, suc}
use Rattle.std.specs.Prelude.{All, Option, Some, None, fold, nat_lt, nat_le, ◌==◌, ◌||◌, ◌&&◌, if◌then◌else◌}
use Rattle.std.proofs.lemmas.Bool.{ne_eqb}
use Rattle.std.proofs.lemmas.Grind.{common_steps}
use Rattle.std.proofs.lemmas.List.{append-nil, take-append-drop, take_more}
use Rattle.std.proofs.lemmas.List.Sums.{fold-append}
use Rattle.std.proofs.Math.Seq.{drop-cons}
use Rattle.std.proofs.lemmas.Bool.Decides.{nat_tests}
use Rattle.std.proofs.lemmas.List.Elements.{All-head, All-tail, All-push, All-nil, All-cons, Contains-append_left, Contains-push}
use Rattle.config_words.specs.declared.fault.ConfigFault.{ConfigFault}
use Rattle.config_words.specs.declared.fault.FaultKind.TheVariants.{NoMemory}
use Rattle.config_words.specs.Faults.{number_of}
use Rattle.config_words.specs.Faults.{precedes}
use Rattle.config.specs.Outlines.{IsReportedOf, Reports, earlier, is_repeat}
use Rattle.config.specs.Standing.{no_lines, outlined}

-- one line more of all
pub one_taken : (all : List (List ℕ)) (k : ℕ) (line : List ℕ) (rest : List (List ℕ)) → drop k all ≡ line ∷ rest → take (k + 1) all ≡ take k all ++ line ∷ []
one_taken all k line rest left =
    let some : k < length all = omega (arith, ap length left, length-drop k all) in
    let here : drop k all ≡ get_or all k [] ∷ drop (suc k) all = drop-cons all k [] some in
    let same : get_or all k [] ≡ line = cc in
    take_more all k [] some ∙ ap (λ (x : List ℕ). take k all ++ x ∷ []) same

pub one_left : (all : List (List ℕ)) (k : ℕ) (line : List ℕ) (rest : List (List ℕ)) → drop k all ≡ line ∷ rest → drop (k + 1) all ≡ rest
one_left all k line rest left =
    let some : k < length all = omega (arith, ap length left, length-drop k all) in
    let here : drop k all ≡ get_or all k [] ∷ drop (suc k) all = drop-cons all k [] some in
    let next : drop (k + 1) all ≡ drop (suc k) all = ap (λ (n : ℕ). drop n all) (add-one k) in
    cc

pub outlined_more : (all : List (List ℕ)) (k : ℕ) (line : List ℕ) (rest : List (List ℕ)) → drop k all ≡ line ∷ rest
    → fold outlined no_lines (take (k + 1) all) ≡ outlined (fold outlined no_lines (take k all)) line
outlined_more all k line rest left =
    ap (λ (l : List (List ℕ)). fold outlined no_lines l) (one_taken all k line rest left)
    ∙ fold-append outlined no_lines (take k all) (line ∷ [])

pub all_taken : (all : List (List ℕ)) (k : ℕ) → drop k all ≡ [] → take k all ≡ all
all_taken all k none =
    let parts : take k all ++ drop k all ≡ all = take-append-drop k all in
    let whole : take k all ++ [] ≡ all = subst (λ (l : List (List ℕ)). take k all ++ l ≡ all) none parts in
    sym (append-nil (take k all)) ∙ whole

-- ---- faults

-- a fault that comes before another comes before all that the other comes before
sooner : (f g h a b c : ℕ) → (nat_lt f g || f == g && nat_le a b) ≡ false → (nat_lt f h || f == h && nat_le a c) ≡ true → (nat_lt g h || g == h && nat_le b c) ≡ true
sooner f g h a b c after reported = grind (arith, nat_tests, common_steps)

all_sooner : (f g : ConfigFault) (again : List ConfigFault) → precedes f g ≡ false → All (λ x. precedes f x ≡ true) again → All (λ x. precedes g x ≡ true) again
all_sooner f g [] after reported = All-nil (λ (x : ConfigFault). precedes g x ≡ true)
all_sooner f g (h ∷ again) after reported =
    All-cons (λ (x : ConfigFault). precedes g x ≡ true) h again
    (sooner f.line g.line h.line (number_of f.kind) (number_of g.kind) (number_of h.kind) after (All-head (λ (x : ConfigFault). precedes f x ≡ true) h again reported))
    (all_sooner f g again after (All-tail (λ (x : ConfigFault). precedes f x ≡ true) h again reported))

itself : (line a : ℕ) → (nat_lt line line || line == line && nat_le a a) ≡ true
itself line a = grind (arith, nat_tests, common_steps)

-- a fault of a line that says nothing again
pub reports_other : (again : List ConfigFault) (first : Option ConfigFault) (fault : ConfigFault) → Reports again first → is_repeat fault.kind ≡ false → fault.kind ≢ NoMemory
    → Reports again (Some (earlier first fault))
reports_other again None fault none other memory =
    (subst (λ (l : List ConfigFault). IsReportedOf l fault) (sym none) (record { known = λ is. cc; first = All-nil (λ (x : ConfigFault). precedes fault x ≡ true) }), memory)
reports_other again (Some f) fault reported other memory = chosen (precedes f fault) refl
  where
    chosen : (b : Bool) → precedes f fault ≡ b → Reports again (Some (if b then f else fault))
    chosen true before = reported
    chosen false after = (record { known = λ is. cc; first = all_sooner f fault again after reported.0.first }, memory)

-- and of one that does
pub reports_again : (again : List ConfigFault) (first : Option ConfigFault) (fault : ConfigFault) → Reports again first → fault.kind ≢ NoMemory
    → Reports (again ++ fault ∷ []) (Some (earlier first fault))
reports_again again None fault none memory = (
  record {
    known = λ is. Contains-push again fault;
    first = subst (λ (l : List ConfigFault). All (λ x. precedes fault x ≡ true) (l ++ fault ∷ [])) (sym none)
        (All-cons (λ (x : ConfigFault). precedes fault x ≡ true) fault [] (itself fault.line (number_of fault.kind))
        (All-nil (λ (x : ConfigFault). precedes fault x ≡ true)));
  },
  memory,
)
reports_again again (Some f) fault reported memory = chosen (precedes f fault) refl
  where
    chosen : (b : Bool) → precedes f fault ≡ b → Reports (again ++ fault ∷ []) (Some (if b then f else fault))
    chosen true before = (
      record {
        known = λ is. Contains-append_left again (fault ∷ []) f (reported.0.known is);
        first = All-push (λ (x : ConfigFault). precedes f x ≡ true) again fault reported.0.first before;
      },
      reported.1,
    )
    chosen false after = (
      record {
        known = λ is. Contains-push again fault;
        first = All-push (λ (x : ConfigFault). precedes fault x ≡ true) again fault (all_sooner f fault again after reported.0.first)
            (itself fault.line (number_of fault.kind));
      },
      memory,
    )
