-- Lines of a course, by how they begin.
use Rattle.std.proofs.Common.{◌≡◌, ◌≢◌, ℕ, true, List, [], ◌∷◌, ◌++◌, length, take, drop, eqb, All, inl, inr, refl, sym, ap, subst, ◌∙◌, append_assoc, append-nil}
use Rattle.std.specs.List.{flat_map}
use Rattle.std.specs.Prelude.{Result, Ok, Err, OnOk, Vec, codes}
use Rattle.std.specs.Cmp.Lexicographic.{pointwise}
use Rattle.std.proofs.lemmas.Grind.{flat_map-append}
use Rattle.std.proofs.lemmas.List.Elements.{All-drop}
use Rattle.std.proofs.lemmas.List.{drop_at}
use Rattle.texts.specs.Lines.{IsLine}
use Rattle.texts.proofs.StartLemmas.{starts}
use Rattle.std.specs.Global.{Global}
use Rattle.mailcore.specs.declared.side.Side.{Side}
use Rattle.mailcore.specs.declared.side.Side.TheVariants.{Near}
use Rattle.mailcore.specs.Words.{flags_word, side_word}
use Rattle.maildir.specs.declared.mem_folder.FolderCall.{FolderCall}
use Rattle.maildir.specs.declared.visited_folder.ArrivingFile.{ArrivingFile}
use Rattle.worlds.specs.WorldText.{quoted}
use Rattle.run_trial.specs.declared.arrival.Coming.{Coming}
use Rattle.run_trial.specs.declared.arrival.FarArrival.{FarArrival}
use Rattle.run_trial.specs.declared.arrival.TrialArrivals.{TrialArrivals}
use Rattle.run_trial.specs.Calls.{folder_word}
use Rattle.run_trial.specs.Coming.{IsComing}
use Rattle.run_trial.specs.CourseLines.{Adds, AddsArrival, AddInTurn, AllSay, Said, spaced, with_arrivals}
use Rattle.run_trial.specs.Courses.{AreLines, LacksLine, LacksStart}

-- a line that has a beginning does not lack it
pub begins : (start line rest : List ℕ) → pointwise eqb (take (length start) line) start ≡ true → rest ≡ drop (length start) line → ¬ LacksStart start line
begins start line rest same is lacks = lacks rest (starts start line rest same is)

-- one line more
pub lines_more : (before line : List ℕ) → AreLines before → AreLines (before ++ (line ++ 10 ∷ []))
lines_more before line are = inr (before ++ line, sym (append_assoc before line (10 ∷ [])))

pub rest_after : (whole before here line following : List ℕ) → whole ≡ before ++ here → IsLine [] line following here → whole ≡ (before ++ (line ++ 10 ∷ [])) ++ following
rest_after whole before here line following is l = is ∙ ap (λ (t : List ℕ). before ++ t) l.parts ∙ simp append_assoc

all_after : (start rest : List ℕ) → All (λ b. b ≢ 10) (start ++ rest) → All (λ b. b ≢ 10) rest
all_after start rest all = subst (All (λ b. b ≢ 10)) (drop_at start rest (length start) refl) (All-drop (λ b. b ≢ 10) (length start) (start ++ rest) all)

-- where a text lacks such a line, so does each of its lines
pub line_lacks : (start whole before here line following : List ℕ) → LacksLine start whole → AreLines before → whole ≡ before ++ here → IsLine [] line following here → LacksStart start line
line_lacks start whole before here line following lacks are is l = λ rest begins_so.
    lacks before here rest following are is (record {
      parts = l.parts ∙ ap (λ (t : List ℕ). t ++ 10 ∷ following) begins_so ∙ append_assoc start rest (10 ∷ following);
      one_line = all_after start rest (subst (All (λ b. b ≢ 10)) begins_so l.one_line);
    })

-- ---- what they say

add_more : (lines : List (List ℕ)) (line : List ℕ) (old said new : Said) → AddInTurn lines old said → Adds line said new → AddInTurn (lines ++ line ∷ []) old new
add_more [] line old said new before adds = (new, subst (λ (s : Said). Adds line s new) before adds, refl)
add_more (l ∷ lines) line old said new before adds = (before.0, before.1, add_more lines line before.0 said new before.2 adds)

abbrev ended : List ℕ → List ℕ
ended line = line ++ 10 ∷ []

-- one line more
pub say_more : (before line : List ℕ) (old said new : Said) → AllSay before old said → Adds line said new → AllSay (before ++ (line ++ 10 ∷ [])) old new
say_more before line old said new all adds = record {
  lines = all.lines ++ line ∷ [];
  whole = ap (λ (t : List ℕ). t ++ ended line) all.whole ∙ sym (flat_map-append ended all.lines (line ∷ []) ∙ ap (λ (t : List ℕ). flat_map ended all.lines ++ t) (append-nil (ended line)));
  say = add_more all.lines line old said new all.say adds;
}

-- what a line says after `arrive`
pub arrival_adds : {E : Type 0} (line text : List ℕ) (old new : TrialArrivals) (said : Said) (r : Result (Unit {0}) E)
    → pointwise eqb (take (length (codes "arrive ")) line) (codes "arrive ") ≡ true → text ≡ drop (length (codes "arrive ")) line
    → OnOk r ((s : Said) → AddsArrival text (with_arrivals old s) (with_arrivals new s)) → OnOk r (Adds line (with_arrivals old said) (with_arrivals new said))
arrival_adds line text old new said (Ok done) same is adds = inr (inl (record { text = text; begins = starts (codes "arrive ") line text same is; says = adds said }))
arrival_adds line text old new said (Err fault) same is adds = tt

-- what a line says of a file
pub near_adds : {E : Type 0} (coming : Coming) (text : List ℕ) (old new : TrialArrivals) (bytes : List ℕ) (r : Result (Unit {0}) E)
    → IsComing text coming → coming.side ≡ Near → coming.text.now ≡ quoted bytes → new.far ≡ old.far
    → OnOk r ((call : FolderCall) × (name : List ℕ) × (folder_word call ≡ coming.call.now)
    × (new.near.items ≡ old.near.items ++ record { call = call; number = coming.number; name = name; bytes = bytes } ∷ []))
    → OnOk r ((said : Said) → AddsArrival text (with_arrivals old said) (with_arrivals new said))
near_adds coming text old new bytes (Ok done) is side text_is far adds = λ said. inr (record {
  arrival = record { call = adds.0; number = coming.number; name = adds.1; bytes = bytes };
  says = record {
    number = is.number;
    flags = coming.flags;
    counts = is.counts;
    words = is.words
        ∙ ap (λ (s : Side). spaced (side_word s ∷ codes "before" ∷ coming.call.now ∷ is.number ∷ flags_word coming.flags ∷ coming.text.now ∷ [])) side
        ∙ ap (λ (w : List ℕ). spaced (codes "near" ∷ codes "before" ∷ w ∷ is.number ∷ flags_word coming.flags ∷ coming.text.now ∷ [])) (sym adds.2)
        ∙ ap (λ (q : List ℕ). spaced (codes "near" ∷ codes "before" ∷ folder_word adds.0 ∷ is.number ∷ flags_word coming.flags ∷ q ∷ [])) text_is;
  };
  now = ap (λ (f : Vec FarArrival Global). let s : Said = record said { far = f.items; near = new.near.items } in s) far
      ∙ ap (λ (n : List ArrivingFile). let s : Said = record said { far = old.far.items; near = n } in s) adds.3;
})
near_adds coming text old new bytes (Err fault) is side text_is far adds = tt
