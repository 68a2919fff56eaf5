-- The first line of a text after which no valid state is possible.
use Rattle.std.proofs.Common.{◌≡◌, ◌≢◌, ℕ, ◌+◌, ◌<◌, ◌^◌, true, false, List, [], ◌∷◌, ◌++◌, length, get_or, drop, map, Option, Some, None, refl, sym, ap, ◌∙◌, subst, inl, inr, ◌⊎◌, arith, append_assoc, length-append}
use Rattle.std.specs.Prelude.{All, IfNone, codes, decimal, unwrap_or, not, ◌==◌}
use Rattle.std.specs.List.{list_all}
use Rattle.std.proofs.lemmas.Bool.{false≢true}
use Rattle.std.proofs.lemmas.List.Elements.{All-nil, All-head, All-tail, All-push, All-weaker}
use Rattle.std.proofs.lemmas.List.Sums.{AllPass-from_list_all}
use Rattle.std.proofs.lemmas.List.{get_or_at, append-nil, length-map, map-append}
use Rattle.rules.proofs.Walks.{AllPairs-nil}
use Rattle.mailcore.specs.declared.side.Side.TheVariants.{Far, Near}
use Rattle.mailcore.specs.FlagSet.{FLAGS}
use Rattle.rules.specs.declared.entry.Entry.{Entry}
use Rattle.rules.specs.declared.state.SyncState.{SyncState}
use Rattle.rules.specs.Entries.{ArePairs, EntryBefore, has_a_side, uid_of, may_end}
use Rattle.sync_state.specs.declared.words.Positive.{Positive}
use Rattle.sync_state.specs.declared.words.Highest.{Highest}
use Rattle.sync_state.specs.declared.words.RunNumber.{RunNumber}
use Rattle.sync_state.specs.declared.state_text.StateHead.{StateHead}
use Rattle.sync_state.specs.declared.version.Version.{Version}
use Rattle.sync_state.specs.declared.version.Version.TheVariants.{One, Two}
use Rattle.sync_state.specs.declared.fault.BookFault.{BookFault}
use Rattle.sync_state.specs.declared.fault.BookFault.TheVariants.{Stopped, BadState, BadJournal, NoMemory}
use Rattle.sync_state.specs.Faults.{ReportsState}
use Rattle.sync_state.specs.Cuts.{same_cut}
use Rattle.mailcore.specs.Words.{flags_word}
use Rattle.sync_state.specs.Words.{IsPositive, IsRun, IsUidOrNone, version_word}
use Rattle.mailcore.proofs.FlagWords.{flags_word-injective}
use Rattle.sync_state.specs.WordLaws.{side-injective, side-lacks, version-injective}
use Rattle.sync_state.specs.Versions.{HasLetters}
use Rattle.sync_state.specs.Lines.{lines_text, OneLine, AreLines, IsBadLine, HasLine, HasNoLine}
use Rattle.sync_state.specs.StateText.{state_title, run_line, far_line, near_line, entry_line, end_line, state_lines, IsHighest, IsEntry, HasText, StateText, StateLines}
use Rattle.sync_state.specs.StateReading.{HeadFits, head_lines, HeadRead, AreEntries, EntriesRead, IsBadEntry, IsNoEnd, IsAfterEnd, ReportsEntry, ReportsEnd}
use Rattle.sync_state.proofs.LineLemmas.{no_lines, more_lines, line_more}
use Rattle.sync_state.proofs.PairLemmas.{may_stand}

-- ---- states that the first lines begin

pub no_pairs : ArePairs []
no_pairs = record {
  ordered = AllPairs-nil EntryBefore;
  some = All-nil (λ e. has_a_side e ≡ true);
  far_once = AllPairs-nil (λ a b. a.far ≡ b.far → a.far ≡ None);
  near_once = AllPairs-nil (λ a b. a.near ≡ b.near → a.near ≡ None);
}

abbrev pub with_entries : StateHead → List Entry → SyncState
with_entries h es = record {
  run = h.run.0;
  far_validity = h.far.0.0;
  near_validity = h.near.0.0;
  max_pulled = h.far.1.0;
  max_pushed = h.near.1.0;
  entries = es;
}

fits_with : (h : StateHead) (es : List Entry) → HeadFits h → All (IsEntry h.version) es → ArePairs es → HasText h.version (with_entries h es)
fits_with h es f all pairs = record {
  run = f.run;
  far_validity = f.far_validity;
  max_pulled = f.max_pulled;
  near_validity = f.near_validity;
  max_pushed = f.max_pushed;
  entries = all;
  pairs = pairs;
}

abbrev first_run : RunNumber
first_run = record { 0 = 1 }

abbrev first_side : Positive × Highest
first_side = (record { 0 = 1 }, record { 0 = 0 })

is_first_run : IsRun 1
is_first_run = record { positive = omega arith; fits = omega arith }

is_first : IsPositive 1
is_first = record { positive = omega arith; fits = omega arith }

is_zero : IsHighest 0
is_zero = omega arith

spelled : (h : StateHead) (es : List Entry) → HeadFits h → All (IsEntry h.version) es → ArePairs es → StateLines (state_lines h.version (with_entries h es))
spelled h es f all pairs = record { version = h.version; state = with_entries h es; fits = fits_with h es f all pairs; same = refl }

bare : (h : StateHead) → HeadFits h → StateLines (state_lines h.version (with_entries h []))
bare h f = spelled h [] f (All-nil (IsEntry h.version)) no_pairs

pub nth : (i : ℕ) (ls bs : List (List ℕ)) → ls ≡ bs → get_or ls i [] ≡ get_or bs i []
nth i ls bs e = ap (λ (x : List (List ℕ)). get_or x i []) e

no_state_is_empty : StateLines [] → ⊥
no_state_is_empty s = let e = nth 0 [] (state_lines s.version s.state) s.same in let h : [] ≡ state_title s.version = e in cc

-- ---- the first four lines

pub bad_title : (text : List ℕ) → HasNoLine {T = Version} (codes "mbsync state ") (λ _. Unit {0}) version_word text → IsBadLine StateLines text 1
bad_title text none = record {
  before = [];
  rest = text;
  lines = no_lines text;
  number_is = refl;
  begins = let h : StateHead = record { version = Two; run = first_run; far = first_side; near = first_side } in
      record { more = state_lines Two (with_entries h []); spelled = bare h (record { run = is_first_run; far_validity = is_first; max_pulled = is_zero; near_validity = is_first; max_pushed = is_zero }) };
  stops = λ line following one e b. none line following one e b.spelled.version tt (nth 0 (line ∷ b.more) (state_lines b.spelled.version b.spelled.state) b.spelled.same);
  ends_early = λ e s. no_state_is_empty s;
}

pub bad_run : (v : Version) (text rest : List ℕ) → AreLines (state_title v ∷ []) text rest
    → HasNoLine (codes "run ") (λ (r : RunNumber). IsRun r.0) (λ r. decimal r.0) rest → IsBadLine StateLines text 2
bad_run v text rest lines none = record {
  before = state_title v ∷ [];
  rest = rest;
  lines = lines;
  number_is = refl;
  begins = let h : StateHead = record { version = v; run = first_run; far = first_side; near = first_side } in
      record { more = run_line 1 ∷ far_line 1 0 ∷ near_line 1 0 ∷ end_line ∷ []; spelled = bare h (record { run = is_first_run; far_validity = is_first; max_pulled = is_zero; near_validity = is_first; max_pushed = is_zero }) };
  stops = λ line following one e b. none line following one e (record { 0 = b.spelled.state.run }) b.spelled.fits.run
      (nth 1 (state_title v ∷ line ∷ b.more) (state_lines b.spelled.version b.spelled.state) b.spelled.same);
  ends_early = λ e s. let h : [] ≡ run_line s.state.run = nth 1 (state_title v ∷ []) (state_lines s.version s.state) s.same in cc;
}

pub bad_far : (v : Version) (text rest : List ℕ) (r : RunNumber) → IsRun r.0 → AreLines (state_title v ∷ run_line r.0 ∷ []) text rest
    → HasNoLine (codes "far ") (λ (p : Positive × Highest). IsPositive p.0.0 × IsHighest p.1.0) (λ p. decimal p.0.0 ++ 32 ∷ decimal p.1.0) rest
    → IsBadLine StateLines text 3
bad_far v text rest r is lines none = record {
  before = state_title v ∷ run_line r.0 ∷ [];
  rest = rest;
  lines = lines;
  number_is = refl;
  begins = let h : StateHead = record { version = v; run = r; far = first_side; near = first_side } in
      record { more = far_line 1 0 ∷ near_line 1 0 ∷ end_line ∷ []; spelled = bare h (record { run = is; far_validity = is_first; max_pulled = is_zero; near_validity = is_first; max_pushed = is_zero }) };
  stops = λ line following one e b. let s = b.spelled.state in
      none line following one e (record { 0 = s.far_validity }, record { 0 = s.max_pulled }) (b.spelled.fits.far_validity, b.spelled.fits.max_pulled)
      (nth 2 (state_title v ∷ run_line r.0 ∷ line ∷ b.more) (state_lines b.spelled.version s) b.spelled.same);
  ends_early = λ e s. let h : [] ≡ far_line s.state.far_validity s.state.max_pulled = nth 2 (state_title v ∷ run_line r.0 ∷ []) (state_lines s.version s.state) s.same in cc;
}

pub bad_near : (v : Version) (text rest : List ℕ) (r : RunNumber) (far : Positive × Highest) → IsRun r.0 → IsPositive far.0.0 × IsHighest far.1.0
    → AreLines (state_title v ∷ run_line r.0 ∷ far_line far.0.0 far.1.0 ∷ []) text rest
    → HasNoLine (codes "near ") (λ (p : Positive × Highest). IsPositive p.0.0 × IsHighest p.1.0) (λ p. decimal p.0.0 ++ 32 ∷ decimal p.1.0) rest
    → IsBadLine StateLines text 4
bad_near v text rest r far is fits lines none = record {
  before = state_title v ∷ run_line r.0 ∷ far_line far.0.0 far.1.0 ∷ [];
  rest = rest;
  lines = lines;
  number_is = refl;
  begins = let h : StateHead = record { version = v; run = r; far = far; near = first_side } in
      record { more = near_line 1 0 ∷ end_line ∷ []; spelled = bare h (record { run = is; far_validity = fits.0; max_pulled = fits.1; near_validity = is_first; max_pushed = is_zero }) };
  stops = λ line following one e b. let s = b.spelled.state in
      none line following one e (record { 0 = s.near_validity }, record { 0 = s.max_pushed }) (b.spelled.fits.near_validity, b.spelled.fits.max_pushed)
      (nth 3 (state_title v ∷ run_line r.0 ∷ far_line far.0.0 far.1.0 ∷ line ∷ b.more) (state_lines b.spelled.version s) b.spelled.same);
  ends_early = λ e s. let h : [] ≡ near_line s.state.near_validity s.state.max_pushed = nth 3 (state_title v ∷ run_line r.0 ∷ far_line far.0.0 far.1.0 ∷ []) (state_lines s.version s.state) s.same in cc;
}

-- ---- entries

record IsSameEntry (a b : Entry) : Type 0 where
  far : a.far ≡ b.far
  near : a.near ≡ b.near
  flags : a.flags ≡ b.flags

entry_from : (a b : Entry) → IsSameEntry a b → a ≡ b
entry_from a b s = let f = s.far in let n = s.near in let w = s.flags in
    ap (λ (x : Option ℕ). let e : Entry = record { far = x; near = a.near; flags = a.flags } in e) f
    ∙ ap (λ (x : Option ℕ). let e : Entry = record { far = b.far; near = x; flags = a.flags } in e) n
    ∙ ap (λ (x : ℕ). let e : Entry = record { far = b.far; near = b.near; flags = x } in e) w

-- a set of flags that have letters in a version
pub letters_within : (v : Version) (flags : ℕ) → HasLetters v flags → flags < 2 ^ FLAGS
letters_within One flags h = omega (arith, h)
letters_within Two flags h = h

pub entry_line-injective : (v : Version) (a b : Entry) → IsEntry v a → IsEntry v b → entry_line a ≡ entry_line b → a ≡ b
entry_line-injective v a b fa fb e =
    let following = ap (λ (x : List ℕ). drop 2 x) e in
    let s = same_cut 32 (decimal (uid_of Far a)) (decimal (uid_of Far b)) (decimal (uid_of Near a) ++ 32 ∷ flags_word a.flags) (decimal (uid_of Near b) ++ 32 ∷ flags_word b.flags)
    (side-lacks a.far fa.far) (side-lacks b.far fb.far) following in
    let t = same_cut 32 (decimal (uid_of Near a)) (decimal (uid_of Near b)) (flags_word a.flags) (flags_word b.flags) (side-lacks a.near fa.near) (side-lacks b.near fb.near) s.following in
    entry_from a b (record {
      far = side-injective a.far b.far fa.far fb.far s.front;
      near = side-injective a.near b.near fa.near fb.near t.front;
      flags = flags_word-injective a.flags b.flags (letters_within v a.flags fa.flags) (letters_within v b.flags fb.flags) t.following;
    })

pub no_end : (e : Entry) → entry_line e ≢ end_line
no_end e h = let c : 32 ≡ 110 = ap (λ (x : List ℕ). get_or x 1 0) h in absurd (omega (arith, c))

-- entries after others, up to the end
record Following (all before : List Entry) (tail : List (List ℕ)) : Type 0 where
  after : List Entry
  same : all ≡ before ++ after
  tail_is : tail ≡ map entry_line after ++ end_line ∷ []

following : (v : Version) (all before : List Entry) (tail : List (List ℕ)) → All (IsEntry v) all → All (IsEntry v) before
    → map entry_line before ++ tail ≡ map entry_line all ++ end_line ∷ [] → Following all before tail
following v all [] tail fa fb e = record { after = all; same = refl; tail_is = e }
following v [] (b ∷ bs) tail fa fb e =
    let h : entry_line b ≡ end_line = nth 0 (entry_line b ∷ (map entry_line bs ++ tail)) (end_line ∷ []) e in absurd (no_end b h)
following v (a ∷ all) (b ∷ bs) tail fa fb e =
    let first : entry_line b ≡ entry_line a = nth 0 (entry_line b ∷ (map entry_line bs ++ tail)) (entry_line a ∷ (map entry_line all ++ end_line ∷ [])) e in
    let rest = ap (λ (x : List (List ℕ)). drop 1 x) e in
    let same = entry_line-injective v b a (All-head (IsEntry v) b bs fb) (All-head (IsEntry v) a all fa) first in
    let r = following v all bs tail (All-tail (IsEntry v) a all fa) (All-tail (IsEntry v) b bs fb) rest in
    record { after = r.after; same = ap (λ (x : Entry). x ∷ all) (sym same) ∙ ap (λ (x : List Entry). b ∷ x) r.same; tail_is = r.tail_is }

-- a state that begins with these lines of a head and of entries
record OfState (h : StateHead) (before : List Entry) (tail : List (List ℕ)) : Type 0 where
  state : SyncState
  fits : HasText h.version state
  following : Following state.entries before tail

of_state : (h : StateHead) (before : List Entry) (tail lines : List (List ℕ)) → StateLines lines → All (IsEntry h.version) before
    → (head_lines h ++ map entry_line before) ++ tail ≡ lines → OfState h before tail
of_state h before tail lines s all e =
    let same = e ∙ s.same in
    let title : state_title s.version ≡ state_title h.version = sym (nth 0 ((head_lines h ++ map entry_line before) ++ tail) (state_lines s.version s.state) same) in
    let version : s.version ≡ h.version = version-injective s.version h.version (ap (λ (x : List ℕ). drop 13 x) title) in
    let fits : HasText h.version s.state = subst (λ (v : Version). HasText v s.state) version s.fits in
    record { state = s.state; fits = fits; following = following h.version s.state.entries before tail fits.entries all (ap (λ (x : List (List ℕ)). drop 4 x) same) }

-- what follows: the last line, or an entry
record IsNext (all before : List Entry) (line : List ℕ) : Type 0 where
  entry : Entry
  others : List Entry
  same : all ≡ before ++ entry ∷ others
  line_is : line ≡ entry_line entry

next_line : (all before : List Entry) (line : List ℕ) (more : List (List ℕ)) → Following all before (line ∷ more) → (line ≡ end_line) ⊎ IsNext all before line
next_line all before line more b = by_after b.after b.same b.tail_is where
  by_after : (after : List Entry) → all ≡ before ++ after → line ∷ more ≡ map entry_line after ++ end_line ∷ [] → (line ≡ end_line) ⊎ IsNext all before line
  by_after [] same e = inl (nth 0 (line ∷ more) (end_line ∷ []) e)
  by_after (y ∷ ys) same e = inr (record { entry = y; others = ys; same = same; line_is = nth 0 (line ∷ more) (entry_line y ∷ (map entry_line ys ++ end_line ∷ [])) e })

-- no far UID, near UID and flags are spelled so
pub no_entry : {X : Type 0} (r : Option X) (v : Version) (line : List ℕ)
    → ((p : Option ℕ × (Option ℕ × ℕ)) → IsUidOrNone p.0 × (IsUidOrNone p.1.0 × (p.1.1 < 2 ^ FLAGS)) → line ≢ codes "e " ++ (decimal (unwrap_or p.0 0) ++ 32 ∷ (decimal (unwrap_or p.1.0 0) ++ 32 ∷ flags_word p.1.1)))
    → IfNone r ((e : Entry) → IsEntry v e → line ≢ entry_line e)
no_entry None v line none = λ e f. none (e.far, (e.near, e.flags)) (f.far, (f.near, letters_within v e.flags f.flags))
no_entry (Some x) v line none = tt

-- the one that is spelled so has flags without a letter
pub no_letter : (v : Version) (line : List ℕ) (e : Entry) → IsEntry Two e → ¬ HasLetters v e.flags → line ≡ entry_line e
    → (a : Entry) → IsEntry v a → line ≢ entry_line a
no_letter v line e fits none is a fa same =
    let fa_wide : IsEntry Two a = record { far = fa.far; near = fa.near; flags = letters_within v a.flags fa.flags } in
    let one : a ≡ e = entry_line-injective Two a e fa_wide fits (sym same ∙ is) in
    none (subst (λ (x : Entry). HasLetters v x.flags) one fa.flags)

pub entry_more : (v : Version) (es : List Entry) (e : Entry) (text between rest : List ℕ) → AreEntries v es text between → HasLine [] (IsEntry v) entry_line e between rest
    → ArePairs (es ++ e ∷ []) → AreEntries v (es ++ e ∷ []) text rest
entry_more v es e text between rest a l p = record {
  fits = All-push (IsEntry v) es e a.fits l.fitting;
  pairs = p;
  lines = let P : List (List ℕ) → Type 0 = λ x. AreLines x text rest in
      subst P (sym (map-append entry_line es (e ∷ []))) (line_more (map entry_line es) (entry_line e) text between rest a.lines l.one_line l.parts);
}

-- ---- the whole

lines_before : (h : StateHead) (es : List Entry) (text between rest : List ℕ) → HeadRead h text between → AreEntries h.version es between rest → AreLines (head_lines h ++ map entry_line es) text rest
lines_before h es text between rest head are = more_lines (head_lines h) (map entry_line es) text between rest head.lines are.lines

regroup : (h : StateHead) (es : List Entry) (line : List ℕ) (more : List (List ℕ))
    → (head_lines h ++ map entry_line es) ++ line ∷ more ≡ ((head_lines h ++ map entry_line es) ++ line ∷ []) ++ more
regroup h es line more = sym (append_assoc (head_lines h ++ map entry_line es) (line ∷ []) more)

entry_of : (v : Version) (s : SyncState) (es ys : List Entry) (y : Entry) → HasText v s → s.entries ≡ es ++ y ∷ ys → IsEntry v y
entry_of v s es ys y fits e =
    let all = subst (λ (x : List Entry). All (IsEntry v) x) e fits.entries in
    subst (λ (x : Entry). IsEntry v x) (get_or_at es y ys y (length es) refl) (all (length es) y (omega (arith, length-append es (y ∷ ys))))

none_stands : (v : Version) (s : SyncState) (es : List Entry) (e : Entry) (line : List ℕ) → HasText v s → IsEntry v e → may_end e es ≡ false → line ≡ entry_line e → IsNext s.entries es line → ⊥
none_stands v s es e line fits is stops line_is n =
    let y = entry_of v s es n.others n.entry fits n.same in
    let same : e ≡ n.entry = entry_line-injective v e n.entry is y (sym line_is ∙ n.line_is) in
    let may = may_stand es n.others n.entry (subst (λ (x : List Entry). ArePairs x) n.same fits.pairs) in
    let here : may_end e es ≡ true = subst (λ (x : Entry). may_end x es ≡ true) (sym same) may in
    false≢true (sym stops ∙ here)

pub bad_state_entry : (h : StateHead) (text between : List ℕ) (number : ℕ) → HeadRead h text between → IsBadEntry h.version 4 between number → IsBadLine StateLines text number
bad_state_entry h text between number head b = record {
  before = head_lines h ++ map entry_line b.before;
  rest = b.rest;
  lines = lines_before h b.before text between b.rest head b.are;
  number_is = b.number_is ∙ omega (arith, length-map b.before entry_line);
  begins = record { more = end_line ∷ []; spelled = spelled h b.before head.fits b.are.fits b.are.pairs };
  stops = λ line following one e g.
      let cut = same_cut 10 line (entry_line b.entry) following b.following one b.one_line (sym e ∙ b.parts) in
      let o = of_state h b.before (line ∷ g.more) _ g.spelled b.are.fits (regroup h b.before line g.more) in
      elim (next_line o.state.entries b.before line g.more o.following) [
        | inl last ↦ no_end b.entry (sym cut.front ∙ last)
        | inr n ↦ none_stands h.version o.state b.before b.entry line o.fits b.fits b.stops cut.front n
      ];
  ends_early = λ e s. let h : [] ≡ entry_line b.entry ++ 10 ∷ b.following = sym e ∙ b.parts in cc;
}

no_tail : (es : List Entry) → [] ≢ map entry_line es ++ end_line ∷ []
no_tail [] e = cc
no_tail (x ∷ es) e = cc

pub bad_state_end : (h : StateHead) (es : List Entry) (text between rest : List ℕ) (number : ℕ) → HeadRead h text between → EntriesRead h.version es between rest
    → IsNoEnd (4 + length es) rest number → IsBadLine StateLines text number
bad_state_end h es text between rest number head read b = record {
  before = head_lines h ++ map entry_line es;
  rest = rest;
  lines = lines_before h es text between rest head read.are;
  number_is = b.number_is ∙ omega (arith, length-map es entry_line);
  begins = record { more = end_line ∷ []; spelled = spelled h es head.fits read.are.fits read.are.pairs };
  stops = λ line following one e g.
      let o = of_state h es (line ∷ g.more) _ g.spelled read.are.fits (regroup h es line g.more) in
      elim (next_line o.state.entries es line g.more o.following) [
        | inl last ↦ b.none line following one e last
        | inr n ↦ read.all line following one e n.entry (entry_of h.version o.state es n.others n.entry o.fits n.same) n.line_is
      ];
  ends_early = λ e s.
      let o = of_state h es [] _ s read.are.fits (append-nil (head_lines h ++ map entry_line es)) in
      no_tail o.following.after o.following.tail_is;
}

nothing_after : (es : List Entry) (line : List ℕ) (more : List (List ℕ)) → end_line ∷ line ∷ more ≢ map entry_line es ++ end_line ∷ []
nothing_after [] line more e = let rest : line ∷ more ≡ [] = ap (λ (x : List (List ℕ)). drop 1 x) e in cc
nothing_after (x ∷ es) line more e = no_end x (sym (nth 0 (end_line ∷ line ∷ more) (entry_line x ∷ (map entry_line es ++ end_line ∷ [])) e))

pub lacks_lf : (line : List ℕ) → list_all (λ b. not (b == 10)) line ≡ true → OneLine line
lacks_lf line h =
    All-weaker (λ b. not (b == 10) ≡ true) (λ b. b ≢ 10) (λ b t e. let none : false ≡ true = subst (λ (x : ℕ). not (x == 10) ≡ true) e t in false≢true none) line
    (AllPass-from_list_all (λ b. not (b == 10)) line h)

last_is_one_line : OneLine end_line
last_is_one_line = lacks_lf end_line refl

pub bad_state_tail : (h : StateHead) (es : List Entry) (text between rest : List ℕ) (number : ℕ) → HeadRead h text between → EntriesRead h.version es between rest
    → IsAfterEnd (4 + length es) rest number → IsBadLine StateLines text number
bad_state_tail h es text between rest number head read b =
    let before : List (List ℕ) = (head_lines h ++ map entry_line es) ++ end_line ∷ [] in
    record {
      before = before;
      rest = b.rest;
      lines = line_more (head_lines h ++ map entry_line es) end_line text rest b.rest (lines_before h es text between rest head read.are) last_is_one_line b.parts;
      number_is = b.number_is ∙ omega (arith, length-map es entry_line, length-append (map entry_line es) (end_line ∷ []));
      begins = record { more = []; spelled = let P : List (List ℕ) → Type 0 = λ x. StateLines x in subst P (sym (append-nil before)) (spelled h es head.fits read.are.fits read.are.pairs) };
      stops = λ line following one e g.
          let same : (head_lines h ++ map entry_line es) ++ end_line ∷ line ∷ g.more ≡ (before ++ line ∷ []) ++ g.more =
          sym (append_assoc (head_lines h ++ map entry_line es) (end_line ∷ line ∷ []) g.more)
          ∙ ap (λ (x : List (List ℕ)). x ++ g.more) (sym (append_assoc (head_lines h ++ map entry_line es) (end_line ∷ []) (line ∷ []))) in
          let o = of_state h es (end_line ∷ line ∷ g.more) _ g.spelled read.are.fits same in
          nothing_after o.following.after line g.more o.following.tail_is;
      ends_early = λ e s. absurd (b.some e);
    }

pub state_is : (h : StateHead) (es : List Entry) (text between rest : List ℕ) → HeadRead h text between → EntriesRead h.version es between rest
    → rest ≡ end_line ++ 10 ∷ [] → StateText (with_entries h es) text
state_is h es text between rest head read e =
    let l = line_more (head_lines h ++ map entry_line es) end_line text rest [] (lines_before h es text between rest head read.are) last_is_one_line e in
    record {
      version = h.version;
      is_text = record { fits = fits_with h es head.fits read.are.fits read.are.pairs; spelled = l.parts ∙ append-nil (lines_text ((head_lines h ++ map entry_line es) ++ end_line ∷ [])) };
    }

pub stops_in_entries : (h : StateHead) (text between : List ℕ) (fault : BookFault) → HeadRead h text between → ReportsEntry h.version 4 between fault → ReportsState text fault
stops_in_entries h text between Stopped head t = t
stops_in_entries h text between (BadState number) head t = bad_state_entry h text between number head t
stops_in_entries h text between (BadJournal number) head t = t
stops_in_entries h text between NoMemory head t = t

pub stops_at_end : (h : StateHead) (es : List Entry) (text between rest : List ℕ) (fault : BookFault) → HeadRead h text between → EntriesRead h.version es between rest
    → ReportsEnd (4 + length es) rest fault → ReportsState text fault
stops_at_end h es text between rest Stopped head read t = t
stops_at_end h es text between rest (BadState number) head read t = elim t [
  | inl none ↦ bad_state_end h es text between rest number head read none
  | inr some ↦ bad_state_tail h es text between rest number head read some
]
stops_at_end h es text between rest (BadJournal number) head read t = t
stops_at_end h es text between rest NoMemory head read t = absurd t
