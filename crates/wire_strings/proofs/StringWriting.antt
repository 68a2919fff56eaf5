-- Literals as they are written.
use Rattle.std.proofs.Common.{◌≡◌, ℕ, false, List, [], ◌∷◌, ◌++◌, length, refl, sym, ap, ◌∙◌, append_assoc}
use Rattle.wire_reader.specs.declared.side.Speaker.{Speaker}
use Rattle.wire_reader.specs.declared.side.Speaker.TheVariants.{Commands, Replies}
use Rattle.wire_reader.specs.Literal.{Number, MayPlus, Literal}
use Rattle.wire_tokens.specs.Numbers.{NumberText}
use Rattle.wire_strings.specs.Literals.{IsLiteral}
use Rattle.wire_strings.specs.Strings.{OnEitherSide}
use Rattle.wire_tokens.specs.Writing.{Appended}

no_plus : (side : Speaker) → MayPlus side false
no_plus Commands = tt
no_plus Replies = tt

literal_text : (side : Speaker) (octets digits : List ℕ) → Number (length octets) digits → IsLiteral octets → Literal side octets (123 ∷ ((digits ++ 125 ∷ []) ++ 13 ∷ 10 ∷ octets))
literal_text side octets digits n h = record {
  front = 123 ∷ [];
  back = (digits ++ 125 ∷ []) ++ 13 ∷ 10 ∷ octets;
  parts = refl;
  first = refl;
  second = record {
    value = (length octets, false);
    front = digits ++ 125 ∷ [];
    back = 13 ∷ 10 ∷ octets;
    parts = refl;
    first = record { digits = digits; parts = refl; number = n; plus = no_plus side; most = h.most };
    second = record {
      front = 13 ∷ [];
      back = 10 ∷ octets;
      parts = refl;
      first = refl;
      second = record { front = 10 ∷ []; back = octets; parts = refl; first = refl; second = (refl, record { each = h.each; long = refl }) };
    };
  };
}

-- `{`, the number, `}` and the line end, and the octets
pub literal_written : (old brace number close new octets : List ℕ) → IsLiteral octets → brace ≡ old ++ 123 ∷ [] → Appended (NumberText (length octets)) brace number → close ≡ number ++ 125 ∷ 13 ∷ 10 ∷ [] → new ≡ close ++ octets → Appended (OnEitherSide (λ side. Literal side octets)) old new
literal_written old brace number close new octets h b n c o =
    let d = n.text in
    let inner : (d ++ 125 ∷ []) ++ 13 ∷ 10 ∷ octets ≡ (d ++ 125 ∷ 13 ∷ 10 ∷ []) ++ octets = append_assoc d (125 ∷ []) (13 ∷ 10 ∷ octets) ∙ sym (append_assoc d (125 ∷ 13 ∷ 10 ∷ []) octets) in
    let c' : close ≡ old ++ (123 ∷ (d ++ 125 ∷ 13 ∷ 10 ∷ [])) =
    c ∙ ap (λ (x : List ℕ). x ++ 125 ∷ 13 ∷ 10 ∷ []) (n.parts ∙ ap (λ (x : List ℕ). x ++ d) b ∙ append_assoc old (123 ∷ []) d) ∙ append_assoc old (123 ∷ d) (125 ∷ 13 ∷ 10 ∷ []) in
    record {
      text = 123 ∷ ((d ++ 125 ∷ []) ++ 13 ∷ 10 ∷ octets);
      parts = o ∙ ap (λ (x : List ℕ). x ++ octets) c' ∙ append_assoc old (123 ∷ (d ++ 125 ∷ 13 ∷ 10 ∷ [])) octets ∙ ap (λ (x : List ℕ). old ++ 123 ∷ x) (sym inner);
      spelled = λ side. literal_text side octets d n.spelled.0 h;
    }

-- a spelling for both sides is one in replies
pub in_replies : {L : Speaker → List ℕ → Type 0} {old new : List ℕ} → Appended (OnEitherSide L) old new → Appended (L Replies) old new
in_replies a = record { text = a.text; parts = a.parts; spelled = a.spelled Replies }
