-- The keywords of a journal, read one after another.
use Rattle.std.proofs.Common.{◌≡◌, ◌≢◌, ℕ, ◌+◌, ◌<◌, Bool, true, false, cond, not, List, [], ◌∷◌, ◌++◌, length, get_or, map, None, Some, refl, sym, ap, ◌∙◌, subst, arith, length-append}
use Rattle.std.specs.Prelude.{All, AllPairs, MatchBool, nat_lt, nat_eq, ◌||◌}
use Rattle.std.specs.List.{list_any}
use Rattle.std.proofs.lemmas.Bool.{false≢true}
use Rattle.std.proofs.lemmas.Bool.Decides.{nat_tests}
use Rattle.std.proofs.lemmas.List.{get_or_at, get_or_append_left, map-append}
use Rattle.std.proofs.lemmas.List.Elements.{All-head, All-tail}
use Rattle.std.proofs.lemmas.List.Folds.{list_any_none}
use Rattle.mailcore.specs.declared.keywords.Keyword.{Keyword}
use Rattle.mailcore.specs.declared.keywords.KeywordFault.{KeywordFault}
use Rattle.mailcore.specs.declared.keywords.KeywordFault.TheVariants.{BadLetter, BadName, Repeated}
use Rattle.mailcore.specs.KeywordNames.{IsMap, has_name, is_keyword_letter, is_keyword_name, is_like, keyword_refused, with_keyword}
use Rattle.texts.specs.declared.lines.Lines.{Lines}
use Rattle.sync_state.specs.declared.version.Version.{Version}
use Rattle.sync_state.specs.declared.version.Version.TheVariants.{One, Two}
use Rattle.sync_state.specs.Cuts.{same_cut}
use Rattle.sync_state.specs.Lines.{OneLine, AreLines, HasNoLine}
use Rattle.sync_state.specs.Versions.{HasKeywords}
use Rattle.sync_state.specs.JournalText.{keyword_line}
use Rattle.sync_state.specs.JournalReading.{IsNextKeyword, KeywordAdded}
use Rattle.sync_state.proofs.LineLemmas.{no_lines, line_more}
use Rattle.sync_state.proofs.JournalHeads.{keyword_known}

-- ---- the last keyword of a map

last_of_all : (P : Keyword → Type 0) (ks : List Keyword) (k : Keyword) → All P (ks ++ k ∷ []) → P k
last_of_all P ks k h =
    subst (λ (x : Keyword). P x) (get_or_at ks k [] k (length ks) refl) (h (length ks) k (omega (arith, length-append ks (k ∷ []))))

last_of_pairs : (R : Keyword → Keyword → Type 0) (ks : List Keyword) (k : Keyword) → AllPairs R (ks ++ k ∷ []) → All (λ x. R x k) ks
last_of_pairs R ks k h = λ i d below.
    let first = get_or_append_left ks (k ∷ []) d i below in
    let last = get_or_at ks k [] d (length ks) refl in
    let within : length ks < length (ks ++ k ∷ []) = omega (arith, length-append ks (k ∷ [])) in
    subst (λ (x : Keyword). R x k) first (subst (λ (y : Keyword). R (get_or (ks ++ k ∷ []) i d) y) last (h i (length ks) d below within))

pub above_others : (ks : List Keyword) (k : Keyword) → IsMap (ks ++ k ∷ []) → All (λ x. x.letter < k.letter) ks
above_others ks k m = last_of_pairs (λ a b. a.letter < b.letter) ks k m.rising

like_none : (letter : ℕ) (name : List ℕ) (x : Keyword) → x.letter < letter → has_name name x ≡ false → is_like letter name x ≡ false
like_none letter name x less none =
    let other : nat_eq x.letter letter ≡ false = grind (arith, nat_tests) in
    ap (λ (b : Bool). b || has_name name x) other ∙ none

-- it is not refused
pub not_refused : (ks : List Keyword) (k : Keyword) → IsMap (ks ++ k ∷ []) → keyword_refused k.letter k.name ks ≡ None
not_refused ks k m =
    by_tests (is_keyword_letter k.letter) (is_keyword_name k.name) (list_any (is_like k.letter k.name) ks)
    (last_of_all (λ x. is_keyword_letter x.letter ≡ true) ks k m.letters) (last_of_all (λ x. is_keyword_name x.name ≡ true) ks k m.names)
    (list_any_none (is_like k.letter k.name) ks (λ i d below.
    like_none k.letter k.name (get_or ks i d) (above_others ks k m i d below) (last_of_pairs (λ a b. has_name b.name a ≡ false) ks k m.apart i d below)))
  where
    by_tests : (letter name like : Bool) → letter ≡ true → name ≡ true → like ≡ false
        → cond (not letter) (Some BadLetter) (cond (not name) (Some BadName) (cond like (Some Repeated) None)) ≡ None
    by_tests true true false l n i = refl
    by_tests true true true l n i = absurd (false≢true (sym i))
    by_tests true false like l n i = absurd (false≢true n)
    by_tests false name like l n i = absurd (false≢true l)

-- it is added after the others
pub added_last : (k : Keyword) (ks : List Keyword) → All (λ x. x.letter < k.letter) ks → with_keyword k ks ≡ ks ++ k ∷ []
added_last k [] below = refl
added_last k (x ∷ ks) below =
    let first : x.letter < k.letter = All-head (λ (y : Keyword). y.letter < k.letter) x ks below in
    let other : nat_lt k.letter x.letter ≡ false = grind (arith, nat_tests) in
    let following = added_last k ks (All-tail (λ (y : Keyword). y.letter < k.letter) x ks below) in
    ap (λ (b : Bool). cond b (k ∷ x ∷ ks) (x ∷ with_keyword k ks)) other ∙ ap (λ (l : List Keyword). x ∷ l) following

-- ---- a line that is not taken

-- the first line of this text is none of these
pub no_such_line : (ks : List Keyword) (text first rest : List ℕ) → text ≡ first ++ 10 ∷ rest → OneLine first
    → ((k : Keyword) → IsMap (ks ++ k ∷ []) → first ≢ keyword_line k) → HasNoLine [] (IsNextKeyword Two ks) keyword_line text
no_such_line ks text first rest parts one none = λ line following lacks e k next same.
    let s = same_cut 10 first line rest following one lacks (sym parts ∙ e) in
    none k next.map_is (s.front ∙ same)

pub not_above : (ks : List Keyword) (k : Keyword) (line : List ℕ) → line ≡ keyword_line k → ¬ All (λ x. x.letter < k.letter) ks
    → (other : Keyword) → IsMap (ks ++ other ∷ []) → line ≢ keyword_line other
not_above ks k line is none other m same =
    let one = keyword_known other k (sym same ∙ is) in
    none (above_others ks k (subst (λ (x : Keyword). IsMap (ks ++ x ∷ [])) one m))

pub not_added : (ks : List Keyword) (k : Keyword) (line : List ℕ) (fault : KeywordFault) → line ≡ keyword_line k → keyword_refused k.letter k.name ks ≡ Some fault
    → (other : Keyword) → IsMap (ks ++ other ∷ []) → line ≢ keyword_line other
not_added ks k line fault is refused other m same =
    let one = keyword_known other k (sym same ∙ is) in
    let none : keyword_refused k.letter k.name ks ≡ None = not_refused ks k (subst (λ (x : Keyword). IsMap (ks ++ x ∷ [])) one m) in
    let wrong : Some fault ≡ None = sym refused ∙ none in cc

-- ---- the loop

-- these keywords are read, and what goes on says whether more may come
pub record ReadSoFar (v : Version) (goes_on : Bool) (keywords : List Keyword) (start now : Lines) : Type 0 where
  pub lines : AreLines (map keyword_line keywords) start.rest.now now.rest.now
  pub taken : now.taken ≡ start.taken + length keywords
  pub words : HasKeywords v keywords
  pub version : goes_on ≡ true → v ≡ Two
  pub all : goes_on ≡ false → HasNoLine [] (IsNextKeyword v keywords) keyword_line now.rest.now

-- version 1 has none
none_in_first : (k : Keyword) → ¬ IsNextKeyword One [] k
none_in_first k next = let e : k ∷ [] ≡ [] = next.words in cc

pub none_read : (v : Version) (goes_on : Bool) (start : Lines) → (goes_on ≡ true → v ≡ Two) → (goes_on ≡ false → v ≡ One) → ReadSoFar v goes_on [] start start
none_read v goes_on start second first = record {
  lines = no_lines start.rest.now;
  taken = omega arith;
  words = by_version v;
  version = second;
  all = λ stops. subst (λ (u : Version). HasNoLine [] (IsNextKeyword u []) keyword_line start.rest.now) (sym (first stops)) (λ line following one e k next same. none_in_first k next);
} where
  by_version : (u : Version) → HasKeywords u []
  by_version One = refl
  by_version Two = tt

pub one_more_read : (v : Version) (b : Bool) (old new : List Keyword) (start before after : Lines) → ReadSoFar v true old start before
    → MatchBool b (KeywordAdded old new before.rest.now after.rest.now × (after.taken ≡ before.taken + 1))
    (HasNoLine [] (IsNextKeyword Two old) keyword_line before.rest.now × (after ≡ before) × (new ≡ old))
    → ReadSoFar v b new start after
one_more_read v true old new start before after r h =
    let k = h.0.keyword in
    let added = h.0.added in
    let size = ap (λ (x : List Keyword). length x) added in
    let counted = h.1 in
    let taken = r.taken in
    record {
      lines = subst (λ (x : List (List ℕ)). AreLines x start.rest.now after.rest.now) (sym (ap (map keyword_line) added ∙ map-append keyword_line old (k ∷ [])))
          (line_more (map keyword_line old) (keyword_line k) start.rest.now before.rest.now after.rest.now r.lines h.0.one_line h.0.parts);
      taken = omega (arith, length-append old (k ∷ []));
      words = subst (λ (u : Version). HasKeywords u new) (sym (r.version refl)) tt;
      version = λ _. r.version refl;
      all = λ e. absurd (false≢true (sym e));
    }
one_more_read v false old new start before after r h =
    let here : ReadSoFar v false old start before = record {
      lines = r.lines;
      taken = r.taken;
      words = r.words;
      version = λ e. absurd (false≢true e);
      all = λ _. subst (λ (u : Version). HasNoLine [] (IsNextKeyword u old) keyword_line before.rest.now) (sym (r.version refl)) h.0;
    } in
    subst (λ (x : List Keyword). ReadSoFar v false x start after) (sym h.2) (subst (λ (l : Lines). ReadSoFar v false old start l) (sym h.1) here)
