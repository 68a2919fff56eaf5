-- The text of an APPEND, in the two parts in which it is sent.
use Rattle.std.proofs.Common.{◌≡◌, ◌<◌, ◌≤◌, inl, inr, ℕ, ◌-◌, Bool, true, false, not, List, [], ◌∷◌, ◌++◌, length, refl, sym, ◌∙◌, ap, subst, append_assoc, append-nil, arith, Option, None, Some}
use Rattle.std.specs.Prelude.{◌==◌, ◌&&◌, nat_le, if◌then◌else◌}
use Rattle.std.specs.List.{list_all}
use Rattle.std.proofs.lemmas.Bool.{and_from, and_parts, cases_Bool, eqb-true}
use Rattle.std.proofs.lemmas.List.{append_cancel_right}
use Rattle.std.proofs.lemmas.List.Folds.{list_all-append}
use Rattle.wire_reader.specs.declared.side.Speaker.TheVariants.{Commands}
use Rattle.wire_reader.specs.declared.lexical.Phase.{Phase}
use Rattle.wire_reader.specs.declared.lexical.Phase.TheVariants as phases
use Rattle.wire_reader.specs.Lexical.{next, restart, phase, asked, asks, asks_from}
use Rattle.wire_reader.specs.Literal.{Literal}
use Rattle.wire_reader.specs.Spelling.{◌⨾◌, Is, crlf, is_digit}
use Rattle.wire_reader.proofs.Lexed.{asks-append}
use Rattle.wire_tokens.specs.Atoms.{TagText}
use Rattle.wire_tokens.specs.FlagLists.{FlagsText}
use Rattle.wire_tokens.specs.Room.{most_names}
use Rattle.wire_tokens.proofs.FlagTexts.{set_names_few}
use Rattle.wire_tokens.specs.Numbers.{NumberText}
use Rattle.wire_tokens.specs.Writing.{Appended}
use Rattle.wire_strings.specs.Texts.{is_text}
use Rattle.wire_strings.specs.Quotes.{QuotedText}
use Rattle.wire_strings.specs.Strings.{OnEitherSide, StringBy}
use Rattle.wire_strings.proofs.StringWriting.{literal_written}
use Rattle.imap_commands.specs.declared.command.Command.{Command}
use Rattle.imap_commands.specs.declared.command.Request.TheVariants as requests
use Rattle.imap_commands.specs.declared.verb.Verb.TheVariants as verbs
use Rattle.imap_commands.specs.Messages.{IsMessage}
use Rattle.imap_commands.specs.Verbs.{word_of}
use Rattle.imap_commands.specs.Requests.{space}
use Rattle.imap_commands.specs.Writing.{Written, WrittenText, WrittenMessage}
use Rattle.imap_commands.proofs.MessageWaits.{appends_wait}
use Rattle.imap_commands.proofs.WrittenCommands.{written_spelled}
use Rattle.imap_commands.proofs.CommandsFit.{command_few}
use Rattle.imap_replies.specs.declared.reply.Reply.{Reply}
use Rattle.imap_session.specs.Answering.{go}
use Rattle.imap_session.specs.Portions.{once, goes_from, goes_in}
use Rattle.imap_session.proofs.Gos.{goes-append}
use Rattle.mailcore.specs.CopyPieces.{text_left}
use Rattle.imap_client.specs.declared.addition.Addition.{Addition}
use Rattle.imap_client.specs.Requests.{IsWord}
use Rattle.imap_client.specs.Appending.{CanAdd, FrontText, InTwo, names_to_add, request_to_add}
use Rattle.imap_client.proofs.Plain.{no_return, calm, soft, soft_next, asked_none, calm_goes, tame, tame_calm, class_tame, tame_is}
use Rattle.imap_client.proofs.Completing.{tag_tame, flags_tame, tag_short, quoted_calm}

-- ---- what is written

pub whole : (P : List ℕ → Type 0) (old new : List ℕ) → old ≡ [] → Appended P old new → P new
whole P old new e a = subst P (sym (a.parts ∙ ap (λ (x : List ℕ). x ++ a.text) e)) a.spelled

module _ {P P' Q R : List ℕ → Type 0} (more : List ℕ) (turn : (t : List ℕ) → P t → P' t) (to : (t : List ℕ) → Q t → R (t ++ more)) where
  followed : (t : List ℕ) → (P ⨾ Q) t → (P' ⨾ R) (t ++ more)
  followed t h = record {
    front = h.front;
    back = h.back ++ more;
    parts = ap (λ (x : List ℕ). x ++ more) h.parts ∙ append_assoc h.front h.back more;
    first = turn h.front h.first;
    second = to h.back h.second;
  }

same : (P : List ℕ → Type 0) (t : List ℕ) → P t → P t
same P t h = h

-- the length of a literal, and its octets with the line end
literal_end : (message t : List ℕ) → IsMessage message → (Is (123 ∷ []) ⨾ NumberText (length message) ⨾ Is (125 ∷ crlf)) t → (WrittenMessage message ⨾ Is crlf) (t ++ (message ++ crlf))
literal_end message t is h =
    let digits = h.second.front in
    let all : t ≡ 123 ∷ (digits ++ 125 ∷ crlf) =
    h.parts ∙ ap (λ (x : List ℕ). x ++ h.back) h.first ∙ ap (λ (x : List ℕ). 123 ∷ x) (h.second.parts ∙ ap (λ (x : List ℕ). digits ++ x) h.second.second) in
    let written : Appended (OnEitherSide (λ side. Literal side message)) [] (t ++ message) =
    literal_written [] (123 ∷ []) (123 ∷ digits) t (t ++ message) message is.literal refl (record { text = digits; parts = refl; spelled = h.second.first }) all refl in
    record {
      front = t ++ message;
      back = crlf;
      parts = sym (append_assoc t message crlf);
      first = λ side. (subst (Literal side message) (sym written.parts) (written.spelled side), is.some);
      second = refl;
    }

in_quotes : (name t : List ℕ) → list_all is_text name ≡ true → QuotedText name t → WrittenText name t
in_quotes name t e h = subst (λ (b : Bool). StringBy b name t) (sym e) h

abbrev command_of : (tag name : List ℕ) (flags : List (List ℕ)) (message : List ℕ) → Command
command_of tag name flags message = record { tag = tag; request = requests.Append name flags message }

pub written_in_two : (tag name message front : List ℕ) (flags : List (List ℕ)) → list_all is_text name ≡ true → IsMessage message → FrontText tag name flags (length message) front
    → Written (command_of tag name flags message) (front ++ (message ++ crlf))
written_in_two tag name message front flags e is h =
    let more = message ++ crlf in
    let sp = same (Is space) in
    followed more (same (TagText tag)) (followed more sp (followed more (same (Is (word_of verbs.Append)))
    (followed more (λ t q. in_quotes name t e q) (followed more sp (followed more (same (FlagsText flags)) (followed more sp (λ t k. literal_end message t is k))))))) front h

-- ---- where the sender waits

-- no CR but in the line end
record EndsCalm (t : List ℕ) : Type 0 where
  body : List ℕ
  parts : t ≡ body ++ crlf
  is_calm : calm body ≡ true

module _ {P Q : List ℕ → Type 0} (first : (t : List ℕ) → P t → calm t ≡ true) (second : (t : List ℕ) → Q t → EndsCalm t) where
  ends_then : (t : List ℕ) → (P ⨾ Q) t → EndsCalm t
  ends_then t h =
      let line = second h.back h.second in
      record {
        body = h.front ++ line.body;
        parts = h.parts ∙ ap (λ (x : List ℕ). h.front ++ x) line.parts ∙ sym (append_assoc h.front line.body crlf);
        is_calm = list_all-append no_return h.front line.body ∙ and_from (calm h.front) (calm line.body) (first h.front h.first) line.is_calm;
      }

tame_so : (t : List ℕ) → list_all tame t ≡ true → calm t ≡ true
tame_so t h = let c = tame_calm t h in c.calm

word_so : (w : List ℕ) → list_all tame w ≡ true → (t : List ℕ) → Is w t → calm t ≡ true
word_so w h t e = tame_so t (tame_is w h t e)

brace_calm : (t : List ℕ) → Is (123 ∷ []) t → calm t ≡ true
brace_calm t e = ap calm e

close_calm : (t : List ℕ) → Is (125 ∷ crlf) t → EndsCalm t
close_calm t e = record { body = 125 ∷ []; parts = e; is_calm = refl }

front_calm : (tag name front : List ℕ) (flags : List (List ℕ)) (count : ℕ) → FrontText tag name flags count front → EndsCalm front
front_calm tag name front flags count h =
    let sp = word_so space refl in
    ends_then (λ t k. tame_so t (tag_tame tag t k)) (ends_then sp (ends_then (word_so (word_of verbs.Append) refl)
    (ends_then (λ t k. let q = quoted_calm name t k in q.calm) (ends_then sp (ends_then (λ t k. tame_so t (flags_tame flags t k)) (ends_then sp
    (ends_then brace_calm (ends_then (λ t (k : NumberText count t). tame_so t (class_tame is_digit refl refl t k.0.each)) close_calm)))))))) front h

soft_phase : (p : Phase) (t : List ℕ) → soft p ≡ true → calm t ≡ true → soft (phase p t) ≡ true
soft_phase p [] h k = h
soft_phase p (b ∷ t) h k = let two = and_parts (no_return b) (calm t) k in soft_phase (next p b) t (soft_next p b h two.0) two.1

-- its literal is asked for once
goes_once : (front : List ℕ) (n : ℕ) → EndsCalm front → asks Commands front ≡ Some n → goes_in front ≡ go ∷ []
goes_once front n h e =
    let q = phase phases.Plain h.body in
    let ask : asked Commands (next q 13) 10 ≡ Some n = sym (asks-append Commands phases.Plain h.body 13 (10 ∷ [])) ∙ ap (asks Commands) (sym h.parts) ∙ e in
    ap goes_in h.parts ∙ goes-append phases.Plain h.body crlf
    ∙ ap (λ (l : List Reply). l ++ goes_from q crlf) (calm_goes phases.Plain h.body refl h.is_calm)
    ∙ ap (λ (o : Option ℕ). once o ++ (once (asked Commands (next q 13) 10) ++ [])) (asked_none q 13 (soft_phase phases.Plain h.body refl h.is_calm))
    ∙ ap (λ (o : Option ℕ). once o ++ []) ask

-- ---- in the literal

not_zero : (n : ℕ) → 0 < n → (n == 0) ≡ false
not_zero n lt = elim (cases_Bool (n == 0)) [ inl e ↦ (let same = eqb-true n 0 e in absurd (omega (arith, same, lt))) | inr e ↦ e ]

return_in : (m n b : ℕ) (t : Bool) → (b == 10) ≡ t → (if t then (let x : Option ℕ = Some m in x) else None) ≡ Some n → 0 < n → (if t && not (m == 0) then phases.In m else restart b) ≡ phases.In n
return_in m n b true is e lt =
    let same : m ≡ n = cc in
    ap (λ (z : Bool). if not z then phases.In m else restart b) (not_zero m (subst (λ (k : ℕ). 0 < k) (sym same) lt)) ∙ ap phases.In same
return_in m n b false is e lt = cc

asked_in : (p : Phase) (b n : ℕ) → asked Commands p b ≡ Some n → 0 < n → next p b ≡ phases.In n
asked_in phases.Plain b n e lt = cc
asked_in phases.Brace b n e lt = cc
asked_in (phases.Digits m) b n e lt = cc
asked_in (phases.Plus m) b n e lt = cc
asked_in (phases.Close m plus) b n e lt = cc
asked_in (phases.Return m true) b n e lt = cc
asked_in (phases.Return m false) b n e lt = return_in m n b (b == 10) refl e lt
asked_in (phases.In m) b n e lt = cc

asks_in : (p : Phase) (xs : List ℕ) (n : ℕ) → asks_from Commands p xs ≡ Some n → 0 < n → phase p xs ≡ phases.In n
asks_in p [] n e lt = cc
asks_in p (b ∷ []) n e lt = asked_in p b n e lt
asks_in p (b ∷ c ∷ xs) n e lt = asks_in (next p b) (c ∷ xs) n e lt

-- nothing is asked for in it, nor in the line end after it
in_goes : (b : ℕ) (m : List ℕ) (k : ℕ) → k ≡ length (b ∷ m) → goes_from (phases.In k) ((b ∷ m) ++ crlf) ≡ []
in_goes b [] k e = let one : nat_le k 1 ≡ true = grind (arith, e) in ap (λ (t : Bool). goes_from (if t then phases.Plain else phases.In (k - 1)) crlf) one
in_goes b (c ∷ m) k e =
    let more : nat_le k 1 ≡ false = grind (arith, e) in
    let left : k - 1 ≡ length (c ∷ m) = omega (arith, e) in
    ap (λ (t : Bool). goes_from (if t then phases.Plain else phases.In (k - 1)) ((c ∷ m) ++ crlf)) more ∙ in_goes c m (k - 1) left

message_goes : (message : List ℕ) → 0 < length message → goes_from (phases.In (length message)) (message ++ crlf) ≡ []
message_goes [] lt = absurd (omega (arith, lt))
message_goes (b ∷ m) lt = in_goes b m (length (b ∷ m)) refl

goes_no_more : (front message : List ℕ) → asks Commands front ≡ Some (length message) → 0 < length message → goes_in (front ++ (message ++ crlf)) ≡ goes_in front
goes_no_more front message e lt =
    goes-append phases.Plain front (message ++ crlf)
    ∙ ap (λ (p : Phase). goes_in front ++ goes_from p (message ++ crlf)) (asks_in phases.Plain front (length message) e lt)
    ∙ ap (λ (l : List Reply). goes_in front ++ l) (message_goes message lt) ∙ append-nil (goes_in front)

-- ---- both parts

pub asks_front : (tag name message front : List ℕ) (flags : List (List ℕ)) → list_all is_text name ≡ true → IsMessage message → FrontText tag name flags (length message) front → asks Commands front ≡ Some (length message)
asks_front tag name message front flags e is h =
    let w = appends_wait tag name message (front ++ (message ++ crlf)) flags (written_in_two tag name message front flags e is h) in
    ap (asks Commands) (append_cancel_right front w.front (message ++ crlf) w.parts) ∙ w.waits

some_rest : (message : List ℕ) → 0 < length message → message ++ crlf ≡ [] → ⊥
some_rest [] lt e = absurd (omega (arith, lt))
some_rest (b ∷ m) lt e = cc

pub in_two : (tag name message front rest : List ℕ) (flags : List (List ℕ)) → most_names flags ≤ 6722 → IsWord name → IsMessage message → FrontText tag name flags (length message) front → rest ≡ message ++ crlf
    → InTwo tag front rest (command_of tag name flags message)
in_two tag name message front rest flags room word is h e =
    let c = command_of tag name flags message in
    let text = message ++ crlf in
    let written = written_in_two tag name message front flags word.each is h in
    let asks_so = asks_front tag name message front flags word.each is h in
    subst (λ (r : List ℕ). InTwo tag front r c) (sym e)
    (record {
      tag_is = refl;
      stays = refl;
      alone = refl;
      text = record {
        spelled = written_spelled c (front ++ text) written;
        fits = (let few = command_few c (front ++ text) written in let short = tag_short c (front ++ text) written in let most = word.most in omega (arith, few, short, most, room));
      };
      some = some_rest message is.some;
      count = length message;
      asks = record { asks_is = asks_so; once = goes_once front (length message) (front_calm tag name front flags (length message) h) asks_so };
      asks_no_more = goes_no_more front message asks_so is.some;
    })

-- as the code has it
pub addition_in_two : (tag front front_items : List ℕ) (a : Addition) → CanAdd a → front ≡ front_items
    → FrontText tag a.name.now (names_to_add a) (length (text_left a.octets)) front_items → InTwo tag front (text_left a.octets ++ crlf) (record { tag = tag; request = request_to_add a })
addition_in_two tag front front_items a can e h =
    in_two tag a.name.now (text_left a.octets) front (text_left a.octets ++ crlf) (names_to_add a) (set_names_few a.keywords.now a.flags can.map) can.name can.message (subst (FrontText tag a.name.now (names_to_add a) (length (text_left a.octets))) (sym e) h) refl
