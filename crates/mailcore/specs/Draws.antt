-- The marks that a generator gives. Its answers to `next_u64` are cut into pairs, each pair gives a
-- mark, and a mark that an earlier pair gave is left out.
use Rattle.std.specs.Prelude.{◌≡◌, ℕ, zero, suc, ◌+◌, ◌%◌, ◌<◌, ◌≤◌, Bool, false, IsTrue, List, [], ◌∷◌, ◌++◌, length, if◌then◌else◌}
use Rattle.std.specs.Int.{w64, to_le_bytes}
use Rattle.std.specs.List.{list_any}
use Rattle.std.specs.Str.{bytes_eq}
use Rattle.rand_core.specs.Stream.{Stream, next_u64}
use Rattle.mailcore.specs.Mark.{base64url}

-- a drawing ends where so many pairs in a row give marks of earlier pairs
abbrev pub RUN_LENGTH : ℕ
RUN_LENGTH = 64

-- the nine bytes of two words: the first, low byte first, and the lowest byte of the second
abbrev pub pair_bytes : ℕ → ℕ → List ℕ
pair_bytes first second = to_le_bytes w64 first ++ second % 256 ∷ []

-- the stream left after the next pair
abbrev pub after_pair : Stream → Stream
after_pair stream = (next_u64 (next_u64 stream).1).1

-- the mark of the next pair
abbrev pub next_mark : Stream → List ℕ
next_mark stream = base64url (pair_bytes (next_u64 stream).0 (next_u64 (next_u64 stream).1).0)

-- the stream left after k pairs
unfoldable pub after_pairs : Stream → ℕ → Stream
after_pairs stream zero = stream
after_pairs stream (suc k) = after_pair (after_pairs stream k)

-- the mark of pair k, counted from 0
abbrev pub mark_at : Stream → ℕ → List ℕ
mark_at stream k = next_mark (after_pairs stream k)

-- the marks of the first k pairs
unfoldable pub marks_before : Stream → ℕ → List (List ℕ)
marks_before stream zero = []
marks_before stream (suc k) = marks_before stream k ++ mark_at stream k ∷ []

-- the mark is one of those listed
abbrev pub is_listed : List (List ℕ) → List ℕ → Bool
is_listed listed mark = list_any (λ other. bytes_eq other mark) listed

-- the mark of pair k stands among those of the pairs before it
abbrev pub is_repeat : Stream → ℕ → Bool
is_repeat stream k = is_listed (marks_before stream k) (mark_at stream k)

-- the marks of the first k pairs without the repeats
unfoldable pub firsts : Stream → ℕ → List (List ℕ)
firsts stream zero = []
firsts stream (suc k) = if is_repeat stream k then firsts stream k else firsts stream k ++ mark_at stream k ∷ []

-- the pairs from k on are repeats, as many as end a drawing
abbrev pub IsRepeatRun : Stream → ℕ → Type 0
IsRepeatRun stream k = (j : ℕ) → j < RUN_LENGTH → IsTrue (is_repeat stream (k + j))

-- these are the first `count` marks without the repeats: so many pairs are needed for them, and no
-- run of repeats ends among those pairs
pub record Draws (stream : Stream) (count : ℕ) (marks : List (List ℕ)) : Type 0 where
  pub pairs : ℕ
  pub are_firsts : marks ≡ firsts stream pairs
  pub are_all : length marks ≡ count
  pub are_needed : (k : ℕ) → k < pairs → length (firsts stream k) < count
  pub has_no_run : (k : ℕ) → k + RUN_LENGTH ≤ pairs → ¬ IsRepeatRun stream k

-- the first run of repeats begins after so many pairs, which give fewer than `count` marks
pub record Repeats (stream : Stream) (count : ℕ) : Type 0 where
  pub pairs : ℕ
  pub are_few : length (firsts stream pairs) < count
  pub then_run : IsRepeatRun stream pairs
  pub is_first : (k : ℕ) → k < pairs → ¬ IsRepeatRun stream k

-- the next n pairs give marks that are listed, and the stream left after them
pub record GivesListed (stream : Stream) (listed : List (List ℕ)) (n : ℕ) (rest : Stream) : Type 0 where
  pub are_listed : (j : ℕ) → j < n → IsTrue (is_listed listed (mark_at stream j))
  pub is_rest : rest ≡ after_pairs stream n

-- the mark of the first pair that gives none of the listed ones, after fewer than end a drawing, and
-- the stream left after that pair
pub record GivesNew (stream : Stream) (listed : List (List ℕ)) (mark : List ℕ) (rest : Stream) : Type 0 where
  pub skipped : ℕ
  pub are_few : skipped < RUN_LENGTH
  pub are_listed : (j : ℕ) → j < skipped → IsTrue (is_listed listed (mark_at stream j))
  pub is_next : mark ≡ mark_at stream skipped
  pub is_new : is_listed listed mark ≡ false
  pub is_rest : rest ≡ after_pairs stream (suc skipped)
