-- What the bytes of a buffer are to who sees the part that was read and what follows it.
use Rattle.std.proofs.Common.{◌≡◌, ◌≤◌, ℕ, ◌+◌, ◌-◌, List, ◌++◌, sym, ◌∙◌, ap, arith, length, take, drop, length-drop, length-take-le}
use Rattle.std.proofs.lemmas.List.{take_all, take-take, drop-drop, drop-take, drop-append-le}
use Rattle.imap_link.specs.ReplyBuffers.{Buffer}

pub buffer_is : (read unread same rest : List ℕ) → read ≡ same → unread ≡ rest → (let b : Buffer = record { read = read; unread = unread } in b) ≡ record { read = same; unread = rest }
buffer_is read unread same rest e f = ap (λ (l : List ℕ). record { read = l; unread = unread }) e ∙ ap (λ (l : List ℕ). record { read = same; unread = l }) f

-- ---- the part from a place to another

module _ (bytes : List ℕ) (start end : ℕ) (some : start ≤ end) (within : end ≤ length bytes) where
  -- it stands at the end of what stands before its end
  pub part_is : take (end - start) (drop start bytes) ≡ drop start (take end bytes)
  part_is =
      let same : start + (end - start) ≡ end = omega arith in
      sym (drop-take start (end - start) bytes) ∙ ap (λ (n : ℕ). drop start (take n bytes)) same

  pub part_long : length (take (end - start) (drop start bytes)) ≡ end - start
  part_long = omega (arith, length-take-le (end - start) (drop start bytes) (omega (arith, length-drop start bytes)), length-drop start bytes)

  -- its last bytes
  pub part_last : (len : ℕ) → len ≤ end - start → drop (end - start - len) (take (end - start) (drop start bytes)) ≡ take len (drop (end - len) bytes)
  part_last len short =
      let first : end - start - len + len ≡ end - start = omega arith in
      let place : start + (end - start - len) ≡ end - len = omega arith in
      ap (λ (n : ℕ). drop (end - start - len) (take n (drop start bytes))) (sym first)
      ∙ drop-take (end - start - len) len (drop start bytes)
      ∙ ap (take len) (drop-drop (end - start - len) start bytes ∙ ap (λ (n : ℕ). drop n bytes) place)

  -- and those before them
  pub part_first : (len : ℕ) → take (end - start - len) (take (end - start) (drop start bytes)) ≡ take (end - start - len) (drop start bytes)
  part_first len = take-take (end - start - len) (end - start) (drop start bytes) (omega arith)

-- the last bytes of what was read, of which `deref` shows the bytes
pub last_is : (bytes same read : List ℕ) (start end len : ℕ) → start ≤ end → end ≤ length bytes → take (end - start) (drop start bytes) ≡ read → len ≤ length read → same ≡ bytes
    → take (end - (end - len)) (drop (end - len) same) ≡ drop (length read - len) read
last_is bytes same read start end len some within e short f =
    let long : length read ≡ end - start = sym (ap length e) ∙ part_long bytes start end some within in
    let count : end - (end - len) ≡ len = omega arith in
    let place : end - start - len ≡ length read - len = omega arith in
    ap (λ (l : List ℕ). take (end - (end - len)) (drop (end - len) l)) f
    ∙ ap (λ (n : ℕ). take n (drop (end - len) bytes)) count
    ∙ sym (part_last bytes start end some within len (omega arith))
    ∙ ap (λ (n : ℕ). drop n (take (end - start) (drop start bytes))) place
    ∙ ap (drop (length read - len)) e

-- ---- one reply more is read

module _ (bytes now : List ℕ) (start end next len : ℕ) (some : start ≤ end) (apart : end ≤ next) (within : next + len ≤ length bytes)
    (front : take (end + len) now ≡ take end bytes ++ take len (drop next bytes)) (following : drop (next + len) now ≡ drop (next + len) bytes) where
  pub more_read : take (end + len - start) (drop start now) ≡ take (end - start) (drop start bytes) ++ take len (drop next bytes)
  more_read =
      let same : start + (end + len - start) ≡ end + len = omega arith in
      let far : start ≤ length (take end bytes) = omega (arith, length-take-le end bytes (omega arith)) in
      sym (drop-take start (end + len - start) now)
      ∙ ap (λ (n : ℕ). drop start (take n now)) same
      ∙ ap (drop start) front
      ∙ drop-append-le start (take end bytes) (take len (drop next bytes)) far
      ∙ ap (λ (l : List ℕ). l ++ take len (drop next bytes)) (sym (part_is bytes start end some (omega arith)))

  pub less_unread : drop (next + len) now ≡ drop len (drop next bytes)
  less_unread = following ∙ sym (drop-drop len next bytes)

-- ---- what was dropped is let go of

pub kept_alone : (bytes mid now : List ℕ) (start end next left : ℕ) → start ≤ end → end ≤ next → left + next ≡ length bytes
    → take (0 + (end - start)) mid ≡ take 0 bytes ++ take (end - start) (drop start bytes) → drop (start + (end - start)) mid ≡ drop (start + (end - start)) bytes
    → take (end - start + left) now ≡ take (end - start) mid ++ take left (drop next mid)
    → take (end - start + left) now ≡ take (end - start) (drop start bytes) ++ drop next bytes
kept_alone bytes mid now start end next left some apart long front following all =
    let zero_first : 0 + (end - start) ≡ end - start = omega arith in
    let place : start + (end - start) + (next - (start + (end - start))) ≡ next = omega arith in
    let first : take (end - start) mid ≡ take (end - start) (drop start bytes) = ap (λ (n : ℕ). take n mid) (sym zero_first) ∙ front in
    let past : drop next mid ≡ drop next bytes =
    ap (λ (n : ℕ). drop n mid) (sym place) ∙ sym (drop-drop (next - (start + (end - start))) (start + (end - start)) mid)
    ∙ ap (drop (next - (start + (end - start)))) following
    ∙ drop-drop (next - (start + (end - start))) (start + (end - start)) bytes ∙ ap (λ (n : ℕ). drop n bytes) place in
    all ∙ ap (λ (l : List ℕ). l ++ take left (drop next mid)) first
    ∙ ap (λ (l : List ℕ). take (end - start) (drop start bytes) ++ take left l) past
    ∙ ap (λ (l : List ℕ). take (end - start) (drop start bytes) ++ l) (take_all left (drop next bytes) (omega (arith, length-drop next bytes)))
