-- A LIST reply for a name within the limits.
use Rattle.std.proofs.Common.{◌≡◌, ℕ, Bool, true, false, ◌&&◌, List, [], ◌∷◌, ◌++◌, length, codes, refl, sym, ◌∙◌, ap, append_assoc, cond, arith}
use Rattle.std.specs.List.{list_all, flat_map}
use Rattle.std.proofs.lemmas.Bool.{and_parts}
use Rattle.std.proofs.lemmas.Bool.Decides.{nat_tests}
use Rattle.wire_strings.specs.Texts.{is_text}
use Rattle.wire_strings.specs.Quotes.{is_special, escaped, IsRaw}
use Rattle.imap_replies.specs.Replies.{WrittenReply}
use Rattle.imap_session.specs.Answering.{listed}
use Rattle.mailcore.proofs.MailboxNameLemmas.{name_bytes}
use Rattle.mailcore.specs.MailboxNames.{is_name_byte, is_mailbox_name}
use Rattle.imap_server.specs.Writing.{Wrote}
use Rattle.imap_server.proofs.WritingLemmas.{wrote_one}

byte_text : (b : ℕ) → is_name_byte b ≡ true → is_text b ≡ true
byte_text b h = grind (arith, nat_tests)

byte_plain : (b : ℕ) → is_name_byte b ≡ true → is_special b ≡ false
byte_plain b h = grind (arith, nat_tests)

all_text : (name : List ℕ) → list_all is_name_byte name ≡ true → list_all is_text name ≡ true
all_text [] h = refl
all_text (b ∷ bs) h =
    ap (λ (x : Bool). x && list_all is_text bs) (byte_text b ((and_parts (is_name_byte b) (list_all is_name_byte bs) h).0)) ∙ all_text bs ((and_parts (is_name_byte b) (list_all is_name_byte bs) h).1)

no_escape : (name : List ℕ) → list_all is_name_byte name ≡ true → name ≡ flat_map escaped name
no_escape [] h = refl
no_escape (b ∷ bs) h =
    let plain = byte_plain b ((and_parts (is_name_byte b) (list_all is_name_byte bs) h).0) in
    ap (λ (l : List ℕ). b ∷ l) (no_escape bs ((and_parts (is_name_byte b) (list_all is_name_byte bs) h).1))
    ∙ ap (λ (x : Bool). cond x (92 ∷ b ∷ []) (b ∷ []) ++ flat_map escaped bs) (sym plain)

pub name_is_raw : (name : List ℕ) → is_mailbox_name name ≡ true → IsRaw name
name_is_raw name h =
    let bytes = name_bytes name h in
    record { value = name; of = record { is = no_escape name bytes; each = all_text name bytes } }

pub listed_written : (name : List ℕ) → IsRaw name → WrittenReply (listed name) (codes "* LIST () \"/\" \"" ++ (name ++ codes "\"\r\n"))
listed_written name raw = record {
  front = codes "* ";
  back = codes "LIST () \"/\" \"" ++ (name ++ codes "\"\r\n");
  parts = refl;
  first = refl;
  second = record {
    front = codes "LIST";
    back = codes " () \"/\" \"" ++ (name ++ codes "\"\r\n");
    parts = refl;
    first = refl;
    second = record {
      front = codes " ";
      back = codes "() \"/\" \"" ++ (name ++ codes "\"\r\n");
      parts = refl;
      first = refl;
      second = record {
        front = codes "()";
        back = codes " \"/\" \"" ++ (name ++ codes "\"\r\n");
        parts = refl;
        first = record { front = codes "("; back = codes ")"; parts = refl; first = refl; second = record { front = []; back = codes ")"; parts = refl; first = refl; second = refl } };
        second = record {
          front = codes " ";
          back = codes "\"/\" \"" ++ (name ++ codes "\"\r\n");
          parts = refl;
          first = refl;
          second = record {
            front = codes "\"/\"";
            back = codes " \"" ++ (name ++ codes "\"\r\n");
            parts = refl;
            first = (refl, refl);
            second = record {
              front = codes " ";
              back = codes "\"" ++ (name ++ codes "\"\r\n");
              parts = refl;
              first = refl;
              second = record {
                front = 34 ∷ name ++ 34 ∷ [];
                back = codes "\r\n";
                parts = ap (λ (l : List ℕ). 34 ∷ l) (sym (append_assoc name (34 ∷ []) (codes "\r\n")));
                first = (refl, raw);
                second = refl;
              };
            };
          };
        };
      };
    };
  };
}

pub listed_wrote : (name old x y new : List ℕ) → is_mailbox_name name ≡ true → x ≡ old ++ codes "* LIST () \"/\" \"" → y ≡ x ++ name → new ≡ y ++ codes "\"\r\n"
    → Wrote (listed name ∷ []) old new
listed_wrote name old x y new is e f g = wrote_one (listed name) old new (record {
  text = codes "* LIST () \"/\" \"" ++ (name ++ codes "\"\r\n");
  parts = g ∙ ap (λ (l : List ℕ). l ++ codes "\"\r\n") (f ∙ ap (λ (l : List ℕ). l ++ name) e)
      ∙ append_assoc (old ++ codes "* LIST () \"/\" \"") name (codes "\"\r\n") ∙ append_assoc old (codes "* LIST () \"/\" \"") (name ++ codes "\"\r\n");
  spelled = listed_written name (name_is_raw name is);
})
