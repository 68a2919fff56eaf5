-- Names of sections, and the lines that give them.
use Rattle.std.proofs.Common.{◌≡◌, ℕ, Bool, true, false, List, [], ◌∷◌, ◌+◌, cond, length, refl, ap, subst, sym, ◌∙◌, map}
use Rattle.std.specs.Prelude.{bytes_eq, nat_lt, position, ◌||◌, ◌&&◌, not, Option, Some, None, Result, Err, IfSome, IsSome, if◌then◌else◌}
use Rattle.std.specs.List.{list_all, list_any, prefix_len}
use Rattle.std.proofs.lemmas.List.{length-map}
use Rattle.config_words.specs.declared.keyword.LinePlace.{LinePlace}
use Rattle.config_words.specs.declared.fault.FaultKind.{FaultKind}
use Rattle.config_words.specs.declared.fault.FaultKind.TheVariants.{OutsideSection, KeywordTwice}
use Rattle.config_words.specs.declared.keyword.FirstWord.{FirstWord}
use Rattle.mailcore.specs.declared.keywords.Keyword as mail
use Rattle.config.specs.Drafts.{IsMet, IsMisplaced, IsTaken, entered, entered_again, given, unless_misplaced}
use Rattle.config_words.specs.Keywords.{opened_by, section_of}
use Rattle.config_words.specs.Places.{is_section, opened, section_named}
use Rattle.config_words.specs.Settings.{is_argument, name_given}
use Rattle.config.specs.Sections.{place_among}
use Rattle.config.specs.Standing.{Standing, begins_again, begun, keyword_again, with_keyword_at, name_again, name_of, named}
use Rattle.config.proofs.KeywordLemmas.{StaysAt, none_stays, none_stays_so}
use Rattle.config_words.specs.Words.{arguments_of, is_plain}

pub any_map : {A : Type 0} (f : A → List ℕ) (p : List ℕ → Bool) (xs : List A) → list_any (λ x. p (f x)) xs ≡ list_any p (map f xs)
any_map f p [] = refl
any_map f p (x ∷ xs) = ap (λ b. p (f x) || b) (any_map f p xs)

two_tests : (n : Option (List ℕ)) (b c : Bool) → n ≡ None → (if b then (if c then n else None) else None) ≡ None
two_tests n true true none = none
two_tests n true false none = refl
two_tests n false c none = refl

one_test : (n : Option (List ℕ)) (b : Bool) → n ≡ None → (if b then n else None) ≡ None
one_test n true none = none
one_test n false none = refl

-- where no section is named, no name is given
nothing_given : (text : List ℕ) → given None None text ≡ None
nothing_given text = two_tests None (is_plain text && not (arguments_of text).quoted) (list_all is_argument (arguments_of text).list) refl

-- nor where the arguments give none
pub nothing_said : (misplaced : Option FaultKind) (section : Option LinePlace) (text : List ℕ) → name_given section (arguments_of text).list ≡ None
    → given misplaced section text ≡ None
nothing_said (Some fault) section text none = refl
nothing_said None section text none = one_test (name_given section (arguments_of text).list) (is_plain text && not (arguments_of text).quoted) none

-- a line that gives no keyword names its section, or does not
unkeyed : (name : Option (List ℕ)) (keyword : Option mail.Keyword) (s : Standing) → keyword ≡ None → entered name keyword s ≡ named name s
unkeyed (Some name) keyword s none = refl
unkeyed None keyword s none = (none_stays_so s.at keyword s none).0

unkeyed_again : (name : Option (List ℕ)) (keyword : Option mail.Keyword) (s : Standing) → keyword ≡ None → entered_again name keyword s ≡ name_again name s
unkeyed_again (Some name) keyword s none = refl
unkeyed_again None keyword s none = (none_stays_so s.at keyword s none).1

-- what stays where a line gives nothing
stays : (keyword : Option mail.Keyword) (old mid new : Standing) (result : Result (Unit {0}) FaultKind) → StaysAt old.at keyword old → mid ≡ old
    → IsTaken (entered_again None None mid) (entered None None mid) new result → IsTaken (keyword_again old.at keyword old) (with_keyword_at old.at keyword old) new result
stays keyword old mid new result same met taken =
    let none = none_stays mid.at mid in
    let found : IsTaken None old new result =
    subst (λ (s : Standing). IsTaken None s new result) (none.0 ∙ met) (subst (λ (a : Option FaultKind). IsTaken a (entered None None mid) new result) none.1 taken) in
    subst (λ (a : Option FaultKind). IsTaken a (with_keyword_at old.at keyword old) new result) (sym same.1)
    (subst (λ (s : Standing). IsTaken None s new result) (sym same.0) found)

-- a line that is refused before it has said anything
pub nothing_entered : (name : Option (List ℕ)) (keyword : Option mail.Keyword) (s : Standing) → name ≡ None → keyword ≡ None
    → (entered_again name keyword s ≡ None) × (s ≡ entered name keyword s)
nothing_entered (Some name) keyword s none nothing = cc
nothing_entered None keyword s none nothing = ((none_stays_so s.at keyword s nothing).1, sym (none_stays_so s.at keyword s nothing).0)

pub misplaced_taken : (misplaced : Option FaultKind) (k : FirstWord) (section : Option LinePlace) (keyword : Option mail.Keyword) (text : List ℕ) (s : Standing) (fault : FaultKind)
    → misplaced ≡ Some fault → IfSome misplaced (IsMisplaced s.at k)
    → IsTaken (entered_again (given misplaced section text) (unless_misplaced misplaced keyword) s) (entered (given misplaced section text) (unless_misplaced misplaced keyword) s) s (Err fault)
misplaced_taken misplaced k section keyword text s fault is misplaces =
    subst (λ (m : Option FaultKind). IsTaken (entered_again (given m section text) (unless_misplaced m keyword) s) (entered (given m section text) (unless_misplaced m keyword) s) s (Err fault))
    (sym is) (by fault (subst (λ (m : Option FaultKind). IfSome m (IsMisplaced s.at k)) is misplaces))
  where
    by : (f : FaultKind) → IsMisplaced s.at k f → IsTaken (entered_again None None s) (entered None None s) s (Err f)
    by OutsideSection misplaces = nothing_entered None None s refl refl
    by KeywordTwice misplaces = nothing_entered None None s refl refl
    by f misplaces = absurd misplaces

-- what is met and then read after it is what the line says
pub placed : (within : Bool) (k : FirstWord) (section : Option LinePlace) (misplaced : Option FaultKind) (keyword : Option mail.Keyword) (text : List ℕ)
    (old mid new : Standing) (result : Result (Unit {0}) FaultKind) → IsMet within k section old mid misplaced
    → (IsSome section → keyword ≡ None) → ((fault : FaultKind) → IsMisplaced old.at k fault → StaysAt old.at keyword old)
    → IsTaken (entered_again (given misplaced section text) (unless_misplaced misplaced keyword) mid) (entered (given misplaced section text) (unless_misplaced misplaced keyword) mid) new result
    → IsTaken (begins_again (if within then None else section) keyword text old) (begun (if within then None else section) keyword text old) new result
placed false k None None keyword text old mid new result met titled faulty taken =
    subst (λ (s : Standing). IsTaken (keyword_again s.at keyword s) (with_keyword_at s.at keyword s) new result) met
    (subst (λ (n : Option (List ℕ)). IsTaken (entered_again n keyword mid) (entered n keyword mid) new result) (nothing_given text) taken)
placed false k None (Some fault) keyword text old mid new result met titled faulty taken = stays keyword old mid new result (faulty fault met.0) met.1 taken
placed false k (Some p) None keyword text old mid new result met titled faulty taken =
    subst (λ (s : Standing). IsTaken (name_again (name_of p text) s) (named (name_of p text) s) new result) met
    (subst (λ (s : Standing). IsTaken (name_again (name_of p text) mid) s new result) (unkeyed (name_of p text) keyword mid (titled refl))
    (subst (λ (a : Option FaultKind). IsTaken a (entered (name_of p text) keyword mid) new result) (unkeyed_again (name_of p text) keyword mid (titled refl)) taken))
placed false k (Some p) (Some fault) keyword text old mid new result met titled faulty taken = absurd met
placed true k None None keyword text old mid new result met titled faulty taken =
    subst (λ (s : Standing). IsTaken (keyword_again s.at keyword s) (with_keyword_at s.at keyword s) new result) met
    (subst (λ (n : Option (List ℕ)). IsTaken (entered_again n keyword mid) (entered n keyword mid) new result) (nothing_given text) taken)
placed true k None (Some fault) keyword text old mid new result met titled faulty taken = stays keyword old mid new result (faulty fault met.0) met.1 taken
placed true k (Some p) None keyword text old mid new result met titled faulty taken = absurd met
placed true k (Some p) (Some fault) keyword text old mid new result met titled faulty taken =
    stays keyword old mid new result (faulty fault met.0) met.1 taken

-- what is met where it may not stand
pub misplaced_so : (within : Bool) (k : FirstWord) (section : Option LinePlace) (old mid : Standing) (misplaced : Option FaultKind)
    → IsMet within k section old mid misplaced → IfSome misplaced (IsMisplaced mid.at k)
misplaced_so within k section old mid None met = tt
misplaced_so false k None old mid (Some fault) met = subst (λ (s : Standing). IsMisplaced s.at k fault) (sym met.1) met.0
misplaced_so false k (Some p) old mid (Some fault) met = absurd met
misplaced_so true k None old mid (Some fault) met = subst (λ (s : Standing). IsMisplaced s.at k fault) (sym met.1) met.0
misplaced_so true k (Some p) old mid (Some fault) met = subst (λ (s : Standing). IsMisplaced s.at k fault) (sym met.1) met.0

-- a keyword begins what its word begins
pub opens_same : (p : LinePlace) (read met : FirstWord) (word : List ℕ) → opened_by p met ≡ opened_by p read → section_of read ≡ section_named word
    → (if is_section p then None else section_of met) ≡ opened p word
opens_same p read met word same named = same ∙ ap (λ (s : Option LinePlace). if is_section p then None else s) named

-- ---- places of names

passed_map : {A B : Type 0} (f : A → B) (p : B → Bool) (xs : List A) → prefix_len (λ x. p (f x)) xs ≡ prefix_len p (map f xs)
passed_map f p [] = refl
passed_map f p (x ∷ xs) = ap (λ (n : ℕ). cond (p (f x)) (1 + n) 0) (passed_map f p xs)

pub place_map : {A B : Type 0} (f : A → B) (p : B → Bool) (xs : List A) → position (λ x. p (f x)) xs ≡ position p (map f xs)
place_map f p xs =
    ap (λ (n : ℕ). cond (nat_lt n (length xs)) (Some n) None) (passed_map f (λ y. not (p y)) xs)
    ∙ ap (λ (l : ℕ). cond (nat_lt (prefix_len (λ y. not (p y)) (map f xs)) l) (Some (prefix_len (λ y. not (p y)) (map f xs))) None) (sym (length-map xs f))

pub named_place : {A B : Type 0} (f : A → B) (g : B → List ℕ) (name : List ℕ) (xs : List A)
    → position (λ x. bytes_eq (g (f x)) name) xs ≡ place_among (map g (map f xs)) name
named_place f g name xs = place_map f (λ y. bytes_eq (g y) name) xs ∙ place_map g (λ other. bytes_eq other name) (map f xs)
