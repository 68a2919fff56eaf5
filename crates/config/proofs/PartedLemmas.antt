-- A reading and the sections of the lines that it has read.
use Rattle.std.proofs.Common.{◌≡◌, ◌∙◌, ℕ, Bool, true, false, List, [], ◌∷◌, ◌++◌, ◌+◌, append-nil, drop, map, take, refl, ap, sym, subst}
use Rattle.std.specs.Prelude.{Option, Some, None, fold, IsSome, is_none, not, ◌&&◌, ◌||◌, if◌then◌else◌}
use Rattle.std.proofs.lemmas.List.Sums.{fold-append}
use Rattle.config_words.specs.Places.{is_section}
use Rattle.config_words.specs.Words.{is_blank, words_of}
use Rattle.config_words.specs.declared.fault.ConfigFault.{ConfigFault}
use Rattle.config.specs.declared.config.Config.{Config}
use Rattle.config.specs.declared.draft.Draft.{Draft}
use Rattle.config.specs.Drafts.{place_of}
use Rattle.config.specs.declared.reading.Reading.{Reading}
use Rattle.config.specs.Accepted.{AcceptsAll, IsWhole}
use Rattle.config.specs.Meant.{IsDrawn, IsMeant, Knows, TookLine}
use Rattle.texts.specs.Lines.{lines_of}
use Rattle.config.proofs.OutlineLemmas.{all_taken, one_left, one_taken}
use Rattle.config.specs.Configurations.{Means, Parts, channel_names, ended, ended_if, meaning_of, no_parts, parted, parted_words, placed}
use Rattle.config.specs.Views.{Shows, View, view, ended_view}
use Rattle.config.proofs.ViewLemmas.{at_drawn, drawn_end, none_open}

-- ---- lines

pub some_first : {A : Type 0} {o : Option A} {x : A} → o ≡ Some x → o ≡ None → ⊥
some_first is none = let both : Some _ ≡ None = sym is ∙ none in cc

pub blank_parted : (p : Parts) (line : List ℕ) → is_blank line ≡ true → parted p line ≡ ended p
blank_parted p line blank = ap (λ (b : Bool). if b then ended p else parted_words (words_of line) p) blank

pub words_parted : (p : Parts) (line : List ℕ) (words : Option (List ℕ × List ℕ)) → is_blank line ≡ false → words_of line ≡ words → parted p line ≡ parted_words words p
words_parted p line words some are =
    ap (λ (b : Bool). if b then ended p else parted_words (words_of line) p) some ∙ ap (λ (w : Option (List ℕ × List ℕ)). parted_words w p) are

pub knows_also : (p q : Parts) (reading : Reading) → p ≡ q → Knows q reading → Knows p reading
knows_also p q reading same knows = subst (λ (x : Parts). Knows x reading) (sym same) knows

-- ---- sections that end

pub not_open : (p : Parts) → is_section (ended p).current.kind ≡ false
not_open p = by (is_section p.current.kind) refl
  where
    by : (b : Bool) → is_section p.current.kind ≡ b → is_section (ended_if b p).current.kind ≡ false
    by false is = is
    by true is = refl

pub ended_meant : (p : Parts) (old : Draft) (new : Reading) → IsDrawn p old → view new.draft ≡ ended_view (is_section (place_of old.section)) (view old)
    → IsMeant (ended p) new
ended_meant p old new is shows = record { draft = drawn_end p old new.draft is shows; begun = λ within. let both : false ≡ true = sym (not_open p) ∙ within in cc }

-- a section that lacks nothing has each keyword
pub whole_so : (whole kept lacks : Bool) (first : Option ConfigFault) → lacks ≡ (not whole || not kept && is_none first) → lacks ≡ false → whole ≡ true
whole_so true kept lacks first is passes = refl
whole_so false kept lacks first is passes = cc

-- where no section has begun, none is open
pub outside_so : (p : Parts) (old : Reading) → IsMeant p old → old.begun ≡ None → is_section (place_of old.draft.section) ≡ false
outside_so p old is none = ap is_section (at_drawn p old.draft is.draft) ∙ by (is_section p.current.kind) refl
  where
    by : (b : Bool) → is_section p.current.kind ≡ b → is_section p.current.kind ≡ false
    by false closed = closed
    by true within = let some : false ≡ true = subst (λ (o : Option ℕ). IsSome o) none (is.begun within) in cc

pub kept_so : (whole kept lacks : Bool) (first : Option ConfigFault) → lacks ≡ (not whole || not kept && is_none first) → lacks ≡ false → first ≡ None → kept ≡ true
kept_so whole true lacks first is passes none = refl
kept_so false false lacks first is passes none = cc
kept_so true false lacks first is passes none = let some : is_none first ≡ true = ap (λ (f : Option ConfigFault). is_none f) none in cc

-- outside sections the channels that are named are those that have ended
pub means_so : (p : Parts) (d : Draft) (config : Config) → IsDrawn p d → is_section p.current.kind ≡ false → Shows (view d) config → Means (meaning_of p) config
means_so p d config is closed shows = record {
  imap_stores = shows.imap_stores ∙ ap (λ (v : View). v.imap_stores) is.view;
  maildir_stores = shows.maildir_stores ∙ ap (λ (v : View). v.maildir_stores) is.view;
  channels = shows.channels ∙ ap (λ (v : View). v.channels) is.view;
  groups = shows.groups
      ∙ (ap (λ (v : View). map (placed v.named) v.groups) is.view
      ∙ ap (λ (names : List (List ℕ)). map (placed names) (meaning_of p).groups)
      (ap (λ (l : List (List ℕ)). channel_names (meaning_of p) ++ l) (none_open p.current.kind p.current.name closed) ∙ append-nil (channel_names (meaning_of p))));
}

-- ---- the lines of a text, as far as they are read

pub record IsParted (text : List ℕ) (taken : ℕ) (rest : List ℕ) (reading : Reading) : Type 0 where
  pub known : Knows (fold parted no_parts (take taken (lines_of text))) reading
  pub left : drop taken (lines_of text) ≡ lines_of rest
  pub whole : reading.first ≡ None → AcceptsAll (fold parted no_parts (take taken (lines_of text))) (drop taken (lines_of text)) → IsWhole text

pub first_parted : (text rest : List ℕ) (taken : ℕ) (reading : Reading) → taken ≡ 0 → rest ≡ text → IsMeant no_parts reading → IsParted text taken rest reading
first_parted text rest taken reading none whole is =
    subst (λ (r : List ℕ). IsParted text taken r reading) (sym whole)
    (subst (λ (n : ℕ). IsParted text n text reading) (sym none) (record { known = λ first. is; left = refl; whole = λ first all. all }))

pub more_parted : (text : List ℕ) (taken grown : ℕ) (line rest following : List ℕ) (old new : Reading) → IsParted text taken rest old
    → grown ≡ taken + 1 → lines_of rest ≡ line ∷ lines_of following → ((p : Parts) → Knows p old → Knows (parted p line) new)
    → ((p : Parts) → Knows p old → TookLine p line old new) → IsParted text grown following new
more_parted text taken grown line rest following old new so is_grown next read took =
    let all = lines_of text in
    let before = fold parted no_parts (take taken all) in
    let here : drop taken all ≡ line ∷ lines_of following = so.left ∙ next in
    let left : drop (taken + 1) all ≡ lines_of following = one_left all taken line (lines_of following) here in
    let more : fold parted no_parts (take (taken + 1) all) ≡ parted before line =
    ap (λ (l : List (List ℕ)). fold parted no_parts l) (one_taken all taken line (lines_of following) here)
    ∙ fold-append parted no_parts (take taken all) (line ∷ []) in
    subst (λ (n : ℕ). IsParted text n following new) (sym is_grown)
    (record {
      known = knows_also (fold parted no_parts (take (taken + 1) all)) (parted before line) new more (read before so.known);
      left = left;
      whole = λ none rest_taken.
          let here_taken = took before so.known none in
          let rest_there : AcceptsAll (parted before line) (lines_of following) =
          subst (λ (p : Parts). AcceptsAll p (lines_of following)) more
          (subst (λ (l : List (List ℕ)). AcceptsAll (fold parted no_parts (take (taken + 1) all)) l) left rest_taken) in
          so.whole here_taken.0 (subst (λ (l : List (List ℕ)). AcceptsAll before l) (sym here) (here_taken.1, rest_there));
    })

pub all_parted : (text : List ℕ) (taken : ℕ) (rest : List ℕ) (reading : Reading) → IsParted text taken rest reading → lines_of rest ≡ []
    → Knows (fold parted no_parts (lines_of text)) reading
all_parted text taken rest reading so none =
    let all = lines_of text in
    knows_also (fold parted no_parts all) (fold parted no_parts (take taken all)) reading
    (sym (ap (λ (l : List (List ℕ)). fold parted no_parts l) (all_taken all taken (so.left ∙ none)))) so.known

-- where none of them was faulty all are taken
pub all_accepted : (text : List ℕ) (taken : ℕ) (rest : List ℕ) (reading : Reading) → IsParted text taken rest reading → lines_of rest ≡ []
    → reading.first ≡ None → IsWhole text
all_accepted text taken rest reading so none first =
    so.whole first
    (subst (λ (l : List (List ℕ)). AcceptsAll (fold parted no_parts (take taken (lines_of text))) l) (sym (so.left ∙ none)) tt)

-- after a line of words, which may have begun a section
pub words_known : (q : Parts) (mid new : Reading) → (mid.first ≡ None → IsDrawn q mid.draft) → new.draft ≡ mid.draft → new.first ≡ mid.first
    → (is_section (place_of new.draft.section) ≡ true → IsSome new.begun) → Knows q new
words_known q mid new known draft first begins = λ none.
    let drawn : IsDrawn q new.draft = subst (λ (d : Draft). IsDrawn q d) (sym draft) (known (sym first ∙ none)) in
    record { draft = drawn; begun = λ within. begins (ap is_section (at_drawn q new.draft drawn) ∙ within) }
