-- What is kept of the UIDs that are taken, once one more is taken in.
use Rattle.std.proofs.Common.{◌≡◌, ◌∙◌, ◌≤◌, ◌<◌, ◌+◌, ℕ, zero, suc, Bool, true, false, ◌||◌, List, [], ◌∷◌, ◌++◌, length, min, get_or, take, refl, sym, ap, subst, arith, append_assoc}
use Rattle.std.specs.Prelude.{Result, Ok, Err, OnOk, ◌==◌, map}
use Rattle.std.specs.Cmp.{unsigned_tied}
use Rattle.std.specs.List.{list_any}
use Rattle.std.specs.Ordering.{eq_by_cmp, nat_cmp}
use Rattle.std.proofs.lemmas.Bool.Decides.{nat_tests}
use Rattle.std.proofs.lemmas.List.{append-nil}
use Rattle.mailcore.specs.declared.side.Side.{Side}
use Rattle.rules.specs.declared.entry.Entry.{Entry}
use Rattle.rules.specs.Entries.{uid_of}
use Rattle.rules.specs.declared.plan.Step.{Step}
use Rattle.sync_state.specs.declared.journal.Logged.{Logged}
use Rattle.sync_state.specs.declared.journal.WrittenJournal.{WrittenJournal}
use Rattle.book.specs.declared.book.Pending.{Pending}
use Rattle.book.specs.declared.book.Pending.TheVariants.{Missing, Useless, Planned}
use Rattle.book.specs.declared.taken.Taken.{Taken}
use Rattle.book.specs.Agreement.{Copy, copy_of, copies_of, is_named}
use Rattle.book.specs.Books.{mended}
use Rattle.book.specs.BookLogs.{logged_more}
use Rattle.book.specs.TakenUids.{Knows, KnowsTaken, copies_one, next_copies}
use Rattle.book.proofs.AgreementLemmas.{copies_more, no_copies}

pub on_ok : {T E A B : Type 0} (r : Result T E) → (A → B) → OnOk r A → OnOk r B
on_ok (Ok x) f a = f a
on_ok (Err e) f a = tt

pub mended_known : (es : List Entry) (p : Pending) (t : Taken) → Knows es p t → Knows es (mended p) t
mended_known es Missing t k = k
mended_known es Useless t k = k
mended_known es (Planned w) t k = k

-- ---- one step more is logged

pub copies_push : (steps : List Step) (log : List Logged) (l : Logged) → copies_of steps (log ++ l ∷ []) ≡ copies_of steps log ++ next_copies steps (length log) l
copies_push [] log l = refl
copies_push (s ∷ []) [] l = append-nil (copy_of s l)
copies_push (s ∷ t ∷ steps) [] l = append-nil (copy_of s l)
copies_push (s ∷ steps) (x ∷ log) l =
    ap (λ (cs : List Copy). copy_of s x ++ cs) (copies_push steps log l)
    ∙ sym (append_assoc (copy_of s x) (copies_of steps log) (next_copies steps (length log) l))

pub next_there : (steps : List Step) (k : ℕ) (l : Logged) (s : Step) → k < length steps → s ≡ get_or steps k s → next_copies steps k l ≡ copy_of s l
next_there [] k l s h e = absurd (omega arith)
next_there (x ∷ steps) zero l s h e = ap (λ (y : Step). copy_of y l) (sym e)
next_there (x ∷ steps) (suc k) l s h e = next_there steps k l s (omega arith) e

pub next_nowhere : (steps : List Step) (k : ℕ) (l : Logged) → length steps ≤ k → next_copies steps k l ≡ []
next_nowhere [] k l h = refl
next_nowhere (s ∷ steps) zero l h = absurd (omega arith)
next_nowhere (s ∷ steps) (suc k) l h = next_nowhere steps k l (omega arith)

pub more_known : (es : List Entry) (p : Pending) (w : WrittenJournal) (l : Logged) (t : Taken) → p ≡ Planned w
    → (list_any copies_one w.journal.plan.steps ≡ true
    → KnowsTaken es w.journal.plan.steps (copies_of w.journal.plan.steps w.journal.log ++ next_copies w.journal.plan.steps (length w.journal.log) l) t)
    → Knows es (logged_more p l) t
more_known es p w l t is knows =
    let here : Knows es (logged_more (Planned w) l) t =
    λ some. subst (λ (cs : List Copy). KnowsTaken es w.journal.plan.steps cs t) (sym (copies_push w.journal.plan.steps w.journal.log l)) (knows some) in
    subst (λ (q : Pending). Knows es (logged_more q l) t) (sym is) here

-- ---- a step that makes a copy

some_after : (a b : Bool) → b ≡ true → (a || b) ≡ true
some_after true b h = refl
some_after false b h = h

pub one_copies : (steps : List Step) (k : ℕ) (s : Step) → k < length steps → s ≡ get_or steps k s → copies_one s ≡ true → list_any copies_one steps ≡ true
one_copies [] k s h e is = absurd (omega arith)
one_copies (x ∷ steps) zero s h e is = ap (λ (b : Bool). b || list_any copies_one steps) (subst (λ (y : Step). copies_one y ≡ true) e is)
one_copies (x ∷ steps) (suc k) s h e is = some_after (copies_one x) (list_any copies_one steps) (one_copies steps k s (omega arith) e is)

-- ---- the first steps of a log

pub no_copy_known : (es : List Entry) (plan steps : List Step) (log : List Logged) (t : Taken) → KnowsTaken es plan [] t
    → KnowsTaken es plan (copies_of steps (take 0 log)) t
no_copy_known es plan steps log t knows = subst (λ (cs : List Copy). KnowsTaken es plan cs t) (sym (no_copies steps)) knows

pub one_copy_known : (es : List Entry) (plan steps : List Step) (log : List Logged) (i : ℕ) (s : Step) (l : Logged) (t : Taken)
    → i < length steps → i < length log → s ≡ get_or steps i s → l ≡ get_or log i l
    → KnowsTaken es plan (copies_of steps (take i log) ++ copy_of s l) t → KnowsTaken es plan (copies_of steps (take (i + 1) log)) t
one_copy_known es plan steps log i s l t a b is_s is_l knows =
    let taken = copies_of steps (take i log) in
    let more : copies_of steps (take (i + 1) log) ≡ taken ++ copy_of s l =
    copies_more steps log i s l a b ∙ ap (λ (x : Step). taken ++ copy_of x (get_or log i l)) (sym is_s) ∙ ap (λ (x : Logged). taken ++ copy_of s x) (sym is_l) in
    subst (λ (cs : List Copy). KnowsTaken es plan cs t) (sym more) knows

all_copies : (steps : List Step) (log : List Logged) (i : ℕ) → min (length steps) (length log) ≤ i → copies_of steps (take i log) ≡ copies_of steps log
all_copies [] log i h = refl
all_copies (s ∷ steps) [] zero h = refl
all_copies (s ∷ steps) [] (suc i) h = refl
all_copies (s ∷ steps) (l ∷ log) zero h = absurd (omega (arith, h))
all_copies (s ∷ steps) (l ∷ log) (suc i) h = ap (λ (cs : List Copy). copy_of s l ++ cs) (all_copies steps log i (omega (arith, h)))

pub all_copies_known : (es : List Entry) (plan steps : List Step) (log : List Logged) (i : ℕ) (t : Taken) → min (length steps) (length log) ≤ i
    → KnowsTaken es plan (copies_of steps (take i log)) t → KnowsTaken es plan (copies_of steps log) t
all_copies_known es plan steps log i t past knows = subst (λ (cs : List Copy). KnowsTaken es plan cs t) (all_copies steps log i past) knows

-- ---- the UIDs of entries

same_test : (m n : ℕ) → eq_by_cmp nat_cmp m n ≡ (n == m)
same_test m n = unsigned_tied m n ∙ grind (arith, nat_tests)

-- a UID is among those of a side if an entry names it there
pub member_named : (side : Side) (uid : ℕ) (es : List Entry) → list_any (eq_by_cmp nat_cmp uid) (map (λ e. uid_of side e) es) ≡ is_named es side uid
member_named side uid [] = refl
member_named side uid (e ∷ es) = ap (λ (b : Bool). b || list_any (eq_by_cmp nat_cmp uid) (map (λ e. uid_of side e) es)) (same_test uid (uid_of side e))
    ∙ ap (λ (b : Bool). uid_of side e == uid || b) (member_named side uid es)
