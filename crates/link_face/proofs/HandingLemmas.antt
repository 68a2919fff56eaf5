-- What is handed out, call after call.
use Rattle.std.proofs.Common.{inl, inr, ℕ, List, [], ◌∷◌, ◌++◌, refl, sym, ap, subst, ◌∙◌, append_assoc}
use Rattle.std.proofs.lemmas.List.{append-nil}
use Rattle.imap_replies.specs.declared.reply.Reply.{Reply}
use Rattle.imap_session.specs.Heard.{AreReplies}
use Rattle.imap_link.proofs.Text.{replies-join}
use Rattle.link_face.specs.Faces.{IsSpelled}
use Rattle.link_face.specs.Turning.{IsTurned}
use Rattle.link_face.specs.Handing.{AreSpelled, HandsOut, HandsOutEach, RepliesAreHandedOut, together}

one_reply : (reply : Reply) (text : List ℕ) → (s : IsSpelled text) → AreReplies (s.reply ∷ []) text
one_reply reply text s = record { front = text; back = []; parts = sym (append-nil text); first = s.spelled; fits = s.fits; others = refl }

one_more : (given text : List ℕ) → AreSpelled given → IsTurned text → AreSpelled (given ++ text)
one_more given text a t = elim t [
  | inl none ↦ subst AreSpelled (sym (ap (λ (l : List ℕ). given ++ l) none ∙ append-nil given)) a
  | inr s ↦ record { replies = a.replies ++ s.reply ∷ []; spelled = replies-join a.replies (s.reply ∷ []) given text a.spelled (one_reply s.reply text s) }
]

after_one : (given ready bytes mid : List ℕ) → AreSpelled (given ++ ready) → HandsOut ready bytes mid → AreSpelled (given ++ (bytes ++ mid))
after_one given [] bytes mid a h = one_more given (bytes ++ mid) (subst AreSpelled (append-nil given) a) h
after_one given (b ∷ bs) bytes mid a h = subst (λ (l : List ℕ). AreSpelled (given ++ l)) (sym h) a

after_each : (given ready : List ℕ) (pieces : List (List ℕ)) (left : List ℕ) → AreSpelled (given ++ ready) → HandsOutEach ready pieces left
    → AreSpelled (given ++ (together pieces ++ left))
after_each given ready [] left a h = subst (λ (l : List ℕ). AreSpelled (given ++ l)) (sym h) a
after_each given ready (bytes ∷ others) left a h =
    let mid = h.0 in
    let next : AreSpelled ((given ++ bytes) ++ mid) = subst AreSpelled (sym (append_assoc given bytes mid)) (after_one given ready bytes mid a h.1) in
    subst AreSpelled (append_assoc given bytes (together others ++ left) ∙ ap (λ (l : List ℕ). given ++ l) (sym (append_assoc bytes (together others) left)))
    (after_each (given ++ bytes) mid others left next h.2)

pub replies_are_handed_out : RepliesAreHandedOut
replies_are_handed_out pieces left h = after_each [] [] pieces left (record { replies = []; spelled = refl }) h
