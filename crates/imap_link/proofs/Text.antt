-- Replies, one after another.
use Rattle.std.proofs.Common.{◌≡◌, ℕ, true, List, [], ◌∷◌, ◌++◌, sym, ◌∙◌, ap, subst, append_assoc}
use Rattle.imap_replies.specs.declared.reply.Reply.{Reply}
use Rattle.imap_session.specs.Heard.{is_passed, AreUntagged, AreReplies}

-- ---- more replies

pub replies-join : (rs ss : List Reply) (x y : List ℕ) → AreReplies rs x → AreReplies ss y → AreReplies (rs ++ ss) (x ++ y)
replies-join [] ss x y h k = subst (λ (l : List ℕ). AreReplies ss (l ++ y)) (sym h) k
replies-join (r ∷ rs) ss x y h k = record {
  front = h.front;
  back = h.back ++ y;
  parts = ap (λ (l : List ℕ). l ++ y) h.parts ∙ append_assoc h.front h.back y;
  first = h.first;
  fits = h.fits;
  others = replies-join rs ss h.back y h.others k;
}

pub untagged-more : (rs : List Reply) (r : Reply) → AreUntagged rs → is_passed r ≡ true → AreUntagged (rs ++ r ∷ [])
untagged-more [] r h e = (e, tt)
untagged-more (q ∷ rs) r h e = (h.0, untagged-more rs r h.1 e)
