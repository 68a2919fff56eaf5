-- Replies that are written one after another.
use Rattle.std.proofs.Common.{ℕ, List, [], ◌∷◌, ◌++◌, refl, sym, ◌∙◌, ap, subst, append_assoc, append-nil}
use Rattle.wire_tokens.specs.Writing.{Appended}
use Rattle.imap_replies.specs.declared.reply.Reply.{Reply}
use Rattle.imap_replies.specs.Replies.{WrittenReply}
use Rattle.imap_server.specs.Writing.{AreWritten, Wrote}

pub written-one : (r : Reply) (text : List ℕ) → WrittenReply r text → AreWritten (r ∷ []) text
written-one r text h = record { front = text; back = []; parts = sym (append-nil text); first = h; second = refl }

pub wrote_one : (r : Reply) (old new : List ℕ) → Appended (WrittenReply r) old new → Wrote (r ∷ []) old new
wrote_one r old new h = record { appended = record { text = h.text; parts = h.parts; spelled = written-one r h.text h.spelled } }

pub written-append : (rs qs : List Reply) (x y : List ℕ) → AreWritten rs x → AreWritten qs y → AreWritten (rs ++ qs) (x ++ y)
written-append [] qs x y h k = subst (λ (l : List ℕ). AreWritten qs (l ++ y)) (sym h) k
written-append (r ∷ rs) qs x y h k = record {
  front = h.front;
  back = h.back ++ y;
  parts = ap (λ (l : List ℕ). l ++ y) h.parts ∙ append_assoc h.front h.back y;
  first = h.first;
  second = written-append rs qs h.back y h.second k;
}

pub wrote_then : (rs qs : List Reply) (a b c : List ℕ) → Wrote rs a b → Wrote qs b c → Wrote (rs ++ qs) a c
wrote_then rs qs a b c h k = record {
  appended = record {
    text = h.appended.text ++ k.appended.text;
    parts = k.appended.parts ∙ ap (λ (l : List ℕ). l ++ k.appended.text) h.appended.parts ∙ append_assoc a h.appended.text k.appended.text;
    spelled = written-append rs qs h.appended.text k.appended.text h.appended.spelled k.appended.spelled;
  };
}

pub wrote_more : (r : Reply) (qs : List Reply) (a b c : List ℕ) → Wrote (r ∷ []) a b → Wrote qs b c → Wrote (r ∷ qs) a c
wrote_more r qs a b c h k = wrote_then (r ∷ []) qs a b c h k

-- nothing is written
pub wrote_none : (a : List ℕ) → Wrote [] a a
wrote_none a = record { appended = record { text = []; parts = sym (append-nil a); spelled = refl } }
