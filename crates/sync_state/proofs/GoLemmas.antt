-- Whether `go` is one of the lines after a line.
use Rattle.std.proofs.Common.{◌≡◌, ◌≢◌, ℕ, List, [], ◌∷◌, ◌++◌, sym, ap, ◌∙◌, refl, append_assoc}
use Rattle.std.specs.Prelude.{All}
use Rattle.std.proofs.lemmas.List.Elements.{All-nil, All-cons, All-head, All-tail}
use Rattle.sync_state.specs.Cuts.{same_cut, no_cut}
use Rattle.sync_state.specs.Lines.{lines_text, OneLine}
use Rattle.sync_state.specs.JournalText.{HasGo, go_line}
use Rattle.sync_state.proofs.StateLemmas.{lacks_lf}

pub go_is_one_line : OneLine go_line
go_is_one_line = lacks_lf go_line refl

pub go_here : (text line rest : List ℕ) → text ≡ line ++ 10 ∷ rest → line ≡ go_line → HasGo text
go_here text line rest e is = record {
  before = [];
  following = rest;
  lines = record { parts = e ∙ ap (λ (x : List ℕ). x ++ 10 ∷ rest) is; whole = All-nil OneLine };
}

pub go_after : (text line rest : List ℕ) → OneLine line → text ≡ line ++ 10 ∷ rest → HasGo rest → HasGo text
go_after text line rest one e g = record {
  before = line ∷ g.before;
  following = g.following;
  lines = record {
    parts = e ∙ ap (λ (x : List ℕ). line ++ 10 ∷ x) g.lines.parts ∙ sym (append_assoc line (10 ∷ lines_text g.before) (go_line ++ 10 ∷ g.following));
    whole = All-cons OneLine line g.before one g.lines.whole;
  };
}

pub go_later : (text line rest : List ℕ) → OneLine line → text ≡ line ++ 10 ∷ rest → line ≢ go_line → HasGo text → HasGo rest
go_later text line rest one e other g = by_lines g.before g.lines.whole g.lines.parts where
  by_lines : (before : List (List ℕ)) → All OneLine before → text ≡ lines_text before ++ (go_line ++ 10 ∷ g.following) → HasGo rest
  by_lines [] whole parts =
      let s = same_cut 10 line go_line rest g.following one go_is_one_line (sym e ∙ parts) in absurd (other s.front)
  by_lines (l ∷ before) whole parts =
      let here : text ≡ l ++ 10 ∷ (lines_text before ++ (go_line ++ 10 ∷ g.following)) = parts ∙ append_assoc l (10 ∷ lines_text before) (go_line ++ 10 ∷ g.following) in
      let s = same_cut 10 line l rest (lines_text before ++ (go_line ++ 10 ∷ g.following)) one (All-head OneLine l before whole) (sym e ∙ here) in
      record { before = before; following = g.following; lines = record { parts = s.following; whole = All-tail OneLine l before whole } }

pub no_go : (text : List ℕ) → OneLine text → HasGo text → ⊥
no_go text one g = by_lines g.before g.lines.parts where
  by_lines : (before : List (List ℕ)) → text ≡ lines_text before ++ (go_line ++ 10 ∷ g.following) → ⊥
  by_lines [] parts = no_cut 10 text go_line g.following one parts
  by_lines (l ∷ before) parts = no_cut 10 text l (lines_text before ++ (go_line ++ 10 ∷ g.following)) one (parts ∙ append_assoc l (10 ∷ lines_text before) (go_line ++ 10 ∷ g.following))
