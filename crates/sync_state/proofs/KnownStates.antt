-- A state is known from its text.
use Rattle.std.proofs.Common.{◌≡◌, ℕ, ◌<◌, ◌^◌, List, [], ◌∷◌, ◌++◌, map, drop, refl, sym, ap, subst, ◌∙◌, arith}
use Rattle.std.specs.Prelude.{All, codes, decimal}
use Rattle.std.proofs.lemmas.Fmt.{decimal_injective}
use Rattle.std.proofs.lemmas.List.Elements.{All-nil, All-cons, All-append, All-map, All-weaker}
use Rattle.mailcore.specs.declared.side.Side.TheVariants.{Far, Near}
use Rattle.rules.specs.declared.entry.Entry.{Entry}
use Rattle.rules.specs.declared.state.SyncState.{SyncState}
use Rattle.rules.specs.Entries.{uid_of}
use Rattle.sync_state.specs.declared.version.Version.{Version}
use Rattle.sync_state.specs.declared.version.Version.TheVariants.{One, Two}
use Rattle.sync_state.specs.Cuts.{same_cut}
use Rattle.mailcore.specs.Words.{flags_word}
use Rattle.sync_state.specs.Words.{IsPositive}
use Rattle.sync_state.specs.WordLaws.{decimal-lacks, version-injective}
use Rattle.sync_state.specs.Lines.{lines_text, OneLine}
use Rattle.sync_state.specs.StateText.{state_title, run_line, far_line, near_line, entry_line, end_line, state_lines, IsHighest, IsEntry, HasText, IsStateText, StateText}
use Rattle.sync_state.proofs.ItemLemmas.{IsEnd}
use Rattle.sync_state.proofs.LfLemmas.{uid_or_none, flags, spaced, following}
use Rattle.sync_state.proofs.StateLemmas.{lacks_lf, nth, entry_line-injective, no_end}
use Rattle.sync_state.proofs.KnownTexts.{same_lines, same_items}

-- ---- lines of a state

number : (n : ℕ) → n < 2 ^ 64 → OneLine (decimal n)
number n small = decimal-lacks 10 (omega arith) n small

two_numbers : (validity highest : ℕ) → IsPositive validity → IsHighest highest → OneLine (decimal validity ++ 32 ∷ decimal highest)
two_numbers validity highest is below = spaced (decimal validity) (decimal highest) (number validity (omega (arith, is.fits))) (number highest (omega (arith, below)))

entry_is_one_line : (v : Version) (e : Entry) → IsEntry v e → OneLine (entry_line e)
entry_is_one_line v e is =
    following (codes "e ") (decimal (uid_of Far e) ++ 32 ∷ (decimal (uid_of Near e) ++ 32 ∷ flags_word e.flags)) (lacks_lf (codes "e ") refl)
    (spaced (decimal (uid_of Far e)) (decimal (uid_of Near e) ++ 32 ∷ flags_word e.flags) (uid_or_none e.far is.far)
    (spaced (decimal (uid_of Near e)) (flags_word e.flags) (uid_or_none e.near is.near) (flags e.flags)))

title : (v : Version) → OneLine (state_title v)
title One = lacks_lf (state_title One) refl
title Two = lacks_lf (state_title Two) refl

pub state_is_lines : (v : Version) (s : SyncState) → HasText v s → All OneLine (state_lines v s)
state_is_lines v s fits =
    let run : OneLine (run_line s.run) = following (codes "run ") (decimal s.run) (lacks_lf (codes "run ") refl) (number s.run fits.run.fits) in
    let far : OneLine (far_line s.far_validity s.max_pulled) = following (codes "far ") (decimal s.far_validity ++ 32 ∷ decimal s.max_pulled) (lacks_lf (codes "far ") refl)
    (two_numbers s.far_validity s.max_pulled fits.far_validity fits.max_pulled) in
    let near : OneLine (near_line s.near_validity s.max_pushed) = following (codes "near ") (decimal s.near_validity ++ 32 ∷ decimal s.max_pushed) (lacks_lf (codes "near ") refl)
    (two_numbers s.near_validity s.max_pushed fits.near_validity fits.max_pushed) in
    let entries : List (List ℕ) = map entry_line s.entries in
    All-cons OneLine (state_title v) (run_line s.run ∷ far_line s.far_validity s.max_pulled ∷ near_line s.near_validity s.max_pushed ∷ (entries ++ end_line ∷ [])) (title v)
    (All-cons OneLine (run_line s.run) (far_line s.far_validity s.max_pulled ∷ near_line s.near_validity s.max_pushed ∷ (entries ++ end_line ∷ [])) run
    (All-cons OneLine (far_line s.far_validity s.max_pulled) (near_line s.near_validity s.max_pushed ∷ (entries ++ end_line ∷ [])) far
    (All-cons OneLine (near_line s.near_validity s.max_pushed) (entries ++ end_line ∷ []) near
    (All-append OneLine entries (end_line ∷ []) (All-map OneLine entry_line s.entries (All-weaker (IsEntry v) (λ e. OneLine (entry_line e)) (entry_is_one_line v) s.entries fits.entries))
    (All-cons OneLine end_line [] (lacks_lf end_line refl) (All-nil OneLine))))))

-- ---- the state of some lines

record SameNumbers (a b c d : ℕ) : Type 0 where
  first : a ≡ b
  second : c ≡ d

two_known : (a b c d : ℕ) → IsPositive a → IsPositive b → IsHighest c → IsHighest d → decimal a ++ 32 ∷ decimal c ≡ decimal b ++ 32 ∷ decimal d → SameNumbers a b c d
two_known a b c d pa pb hc hd e =
    let s = same_cut 32 (decimal a) (decimal b) (decimal c) (decimal d) (decimal-lacks 32 (omega arith) a (omega (arith, pa.fits))) (decimal-lacks 32 (omega arith) b (omega (arith, pb.fits))) e in
    record {
      first = decimal_injective a b (omega (arith, pa.fits)) (omega (arith, pb.fits)) s.front;
      second = decimal_injective c d (omega (arith, hc)) (omega (arith, hd)) s.following;
    }

entries_end : (v : Version) → IsEnd (IsEntry v) entry_line (end_line ∷ [])
entries_end v = record { first = end_line; others = []; same = refl; foreign = λ e f h. no_end e (sym h) }

pub state_from : (a b : SyncState) → a.run ≡ b.run → a.far_validity ≡ b.far_validity → a.near_validity ≡ b.near_validity → a.max_pulled ≡ b.max_pulled → a.max_pushed ≡ b.max_pushed
    → a.entries ≡ b.entries → a ≡ b
state_from a b run far near pulled pushed entries =
    ap (λ (x : ℕ). let s : SyncState = record a { run = x } in s) run
    ∙ ap (λ (x : ℕ). let s : SyncState = record b { far_validity = x; near_validity = a.near_validity; max_pulled = a.max_pulled; max_pushed = a.max_pushed; entries = a.entries } in s) far
    ∙ ap (λ (x : ℕ). let s : SyncState = record b { near_validity = x; max_pulled = a.max_pulled; max_pushed = a.max_pushed; entries = a.entries } in s) near
    ∙ ap (λ (x : ℕ). let s : SyncState = record b { max_pulled = x; max_pushed = a.max_pushed; entries = a.entries } in s) pulled
    ∙ ap (λ (x : ℕ). let s : SyncState = record b { max_pushed = x; entries = a.entries } in s) pushed
    ∙ ap (λ (x : List Entry). let s : SyncState = record b { entries = x } in s) entries

lines_of_one : (v w : Version) (a b : SyncState) → HasText v a → HasText w b → state_lines v a ≡ state_lines w b → a ≡ b
lines_of_one v w a b fa other e =
    let version : w ≡ v = sym (version-injective v w (ap (λ (x : List ℕ). drop 13 x) (nth 0 (state_lines v a) (state_lines w b) e))) in
    let fb : HasText v b = subst (λ (u : Version). HasText u b) version other in
    let run = decimal_injective a.run b.run fa.run.fits fb.run.fits (ap (λ (x : List ℕ). drop 4 x) (nth 1 (state_lines v a) (state_lines w b) e)) in
    let far = two_known a.far_validity b.far_validity a.max_pulled b.max_pulled fa.far_validity fb.far_validity fa.max_pulled fb.max_pulled
    (ap (λ (x : List ℕ). drop 4 x) (nth 2 (state_lines v a) (state_lines w b) e)) in
    let near = two_known a.near_validity b.near_validity a.max_pushed b.max_pushed fa.near_validity fb.near_validity fa.max_pushed fb.max_pushed
    (ap (λ (x : List ℕ). drop 5 x) (nth 3 (state_lines v a) (state_lines w b) e)) in
    let entries = same_items (IsEntry v) entry_line (entry_line-injective v) a.entries b.entries (end_line ∷ []) (end_line ∷ []) fa.entries fb.entries (entries_end v) (entries_end v)
    (ap (λ (x : List (List ℕ)). drop 4 x) e) in
    state_from a b run far.first near.first far.second near.second entries.items

pub state_known : (a b : SyncState) (text : List ℕ) → StateText a text → StateText b text → a ≡ b
state_known a b text ta tb = in_versions ta.version tb.version ta.is_text tb.is_text where
  in_versions : (v w : Version) → IsStateText v a text → IsStateText w b text → a ≡ b
  in_versions v w ia ib =
      let same : lines_text (state_lines v a) ++ [] ≡ lines_text (state_lines w b) ++ [] = ap (λ (x : List ℕ). x ++ []) (sym ia.spelled ∙ ib.spelled) in
      let lines = same_lines (state_lines v a) (state_lines w b) [] [] (state_is_lines v a ia.fits) (state_is_lines w b ib.fits) (All-nil _) (All-nil _) same in
      lines_of_one v w a b ia.fits ib.fits lines.lines
