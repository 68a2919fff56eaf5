-- What is turned at the front of what came.
use Rattle.std.proofs.Common.{◌≡◌, inl, inr, ◌<◌, ℕ, Bool, true, false, ◌&&◌, List, [], ◌∷◌, ◌++◌, refl, sym, ◌∙◌, ap, subst, arith, append_assoc, length, take, drop, take-append-drop, length-take-le}
use Rattle.std.specs.List.{list_all}
use Rattle.imap_replies.specs.declared.reply.Reply.{Reply}
use Rattle.imap_session.specs.Heard.{AreReplies}
use Rattle.imap_session.proofs.Apart.{apart, replies_apart}
use Rattle.imap_session.proofs.AnswersApart.{reply_some}
use Rattle.link_face.specs.declared.face.Face.{Face}
use Rattle.link_face.specs.Extents.{IsListed, NeverSaid, HasPart}
use Rattle.link_face.specs.Faces.{IsSpelled}
use Rattle.link_face.specs.Said.{is_said, AreSaid, IsSpeech}
use Rattle.link_face.specs.Turning.{Untouched, Unchanged, HasListed, NotesNames}

-- ---- the first reply

and_first : (a b : Bool) → (a && b) ≡ true → a ≡ true
and_first true b e = refl
and_first false b e = e

and_last : (a b : Bool) → (a && b) ≡ true → b ≡ true
and_last true b e = e
and_last false b e = cc

empty_front : (a b : List ℕ) → a ++ b ≡ [] → a ≡ []
empty_front [] b e = refl
empty_front (x ∷ a) b e = cc

-- what follows it
speech_by : (replies : List Reply) (text rest more : List ℕ) → AreSaid replies → AreReplies replies ((text ++ rest) ++ more) → IsSpelled text → IsSpeech (rest ++ more)
speech_by [] text rest more said e h = absurd (reply_some h.reply text h.spelled (empty_front text rest (empty_front (text ++ rest) more e)))
speech_by (reply ∷ replies) text rest more said e h =
    let same = apart replies_apart h.reply reply text (rest ++ more) e.front e.back h.spelled e.first (sym (append_assoc text rest more) ∙ e.parts) in
    record { replies = replies; said = and_last (is_said reply) (list_all is_said replies) said; spelled = subst (AreReplies replies) (sym same.rest) e.others }

pub speech_rest : (bytes text rest more : List ℕ) → bytes ≡ text ++ rest → IsSpelled text → IsSpeech (bytes ++ more) → IsSpeech (rest ++ more)
speech_rest bytes text rest more e h s = speech_by s.replies text rest more s.said (subst (λ (l : List ℕ). AreReplies s.replies (l ++ more)) e s.spelled) h

-- no other one stands there
never_by : (replies : List Reply) (bytes more : List ℕ) → AreSaid replies → AreReplies replies (bytes ++ more) → 0 < length bytes → NeverSaid bytes → ⊥
never_by [] bytes more said e some never = let none : length bytes ≡ 0 = ap length (empty_front bytes more e) in omega (arith, some, none)
never_by (reply ∷ replies) bytes more said e some never =
    never e.front e.back more (record { reply = reply; spelled = e.first; fits = e.fits; said = and_first (is_said reply) (list_all is_said replies) said }) e.parts

pub no_speech : (bytes : List ℕ) (len : ℕ) (more : List ℕ) → HasPart NeverSaid bytes len → IsSpeech (bytes ++ more) → ⊥
no_speech bytes len more p s =
    let parts : bytes ++ more ≡ take len bytes ++ (drop len bytes ++ more) = ap (λ (l : List ℕ). l ++ more) (sym (take-append-drop len bytes)) ∙ append_assoc (take len bytes) (drop len bytes) more in
    never_by s.replies (take len bytes) (drop len bytes ++ more) s.said (subst (AreReplies s.replies) parts s.spelled)
    (let some = p.some in omega (arith, some, length-take-le len bytes p.within)) p.part

-- ---- where nothing was turned

pub untouched_unchanged : (old new : Face) → Untouched old new → Unchanged old new
untouched_unchanged old new u e = record {
  was = sym u.renamed ∙ e;
  kept = λ more s. record {
    held = ap (λ (l : List ℕ). l ++ new.incoming) u.ready ∙ ap (λ (l : List ℕ). old.ready ++ l) u.incoming;
    speech = subst (λ (l : List ℕ). IsSpeech (l ++ more)) (sym u.incoming) s;
  };
}

pub untouched_notes : (old new : Face) → Untouched old new → NotesNames old new
untouched_notes old new u = record { taken = []; parts = sym u.incoming; noted = λ e. inl (sym u.renamed ∙ e) }

-- ---- one after another

pub unchanged_twice : (old mid new : Face) → Unchanged old mid → Unchanged mid new → Unchanged old new
unchanged_twice old mid new h k e =
    let last = k e in
    let first = h last.was in
    record {
      was = first.was;
      kept = λ more s.
          let one = first.kept more s in
          let two = last.kept more one.speech in
          record { held = two.held ∙ one.held; speech = two.speech };
    }

listed_later : (bytes taken rest : List ℕ) → bytes ≡ taken ++ rest → HasListed rest → HasListed bytes
listed_later bytes taken rest e h = record {
  before = taken ++ h.before;
  text = h.text;
  after = h.after;
  parts = e ∙ ap (λ (l : List ℕ). taken ++ l) h.parts ∙ sym (append_assoc taken h.before (h.text ++ h.after));
  listed = h.listed;
}

pub notes_twice : (old mid new : Face) → NotesNames old mid → NotesNames mid new → NotesNames old new
notes_twice old mid new h k = record {
  taken = h.taken ++ k.taken;
  parts = h.parts ∙ ap (λ (l : List ℕ). h.taken ++ l) k.parts ∙ sym (append_assoc h.taken k.taken new.incoming);
  noted = λ e. elim (k.noted e) [ inl was ↦ h.noted was | inr listed ↦ inr (listed_later old.incoming h.taken mid.incoming h.parts listed) ];
}

-- ---- each way in which a reply is taken off the front

-- as it came
pub kept_unchanged : (old new : Face) (len : ℕ) → old.ready ≡ [] → IsSpelled (take len old.incoming) → old.incoming ≡ take len old.incoming ++ new.incoming → new.ready ≡ take len old.incoming
    → new.renamed ≡ old.renamed → Unchanged old new
kept_unchanged old new len none h rest same renamed e = record {
  was = sym renamed ∙ e;
  kept = λ more s. record {
    held = ap (λ (l : List ℕ). l ++ new.incoming) same ∙ sym rest ∙ ap (λ (l : List ℕ). l ++ old.incoming) (sym none);
    speech = speech_rest old.incoming (take len old.incoming) new.incoming more rest h s;
  };
}

-- one that no server of the profile says
pub other_unchanged : (old new : Face) (len : ℕ) → HasPart NeverSaid old.incoming len → new.renamed ≡ old.renamed → Unchanged old new
other_unchanged old new len p renamed e = record { was = sym renamed ∙ e; kept = λ more s. absurd (no_speech old.incoming len more p s) }

-- no name was turned
pub taken_notes : (old new : Face) (len : ℕ) → old.incoming ≡ take len old.incoming ++ new.incoming → new.renamed ≡ old.renamed → NotesNames old new
taken_notes old new len rest renamed = record { taken = take len old.incoming; parts = rest; noted = λ e. inl (sym renamed ∙ e) }

-- a LIST reply
pub listed_notes : (old new : Face) (len : ℕ) → HasPart IsListed old.incoming len → old.incoming ≡ take len old.incoming ++ new.incoming → NotesNames old new
listed_notes old new len p rest = record {
  taken = take len old.incoming;
  parts = rest;
  noted = λ e. inr (record { before = []; text = take len old.incoming; after = new.incoming; parts = rest; listed = p.part });
}

pub listed_unchanged : (old new : Face) → new.renamed ≡ true → Unchanged old new
listed_unchanged old new t e = let both : true ≡ false = sym t ∙ e in cc

-- nothing happened
pub same_unchanged : (face : Face) → Unchanged face face
same_unchanged face = untouched_unchanged face face (record { incoming = refl; ready = refl; renamed = refl })

pub same_notes : (face : Face) → NotesNames face face
same_notes face = untouched_notes face face (record { incoming = refl; ready = refl; renamed = refl })
