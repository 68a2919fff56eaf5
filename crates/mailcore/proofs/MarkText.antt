-- The text of nine bytes is a mark.
use Rattle.std.proofs.Common.{◌≡◌, ℕ, zero, suc, ◌+◌, ◌*◌, ◌/◌, ◌%◌, ◌^◌, ◌<◌, ◌≤◌, nat_lt, Bool, true, ◌&&◌, ◌==◌, List, [], ◌∷◌, length, drop, slice_index, OnOk, refl, arith, ◌∙◌}
use Rattle.std.proofs.lemmas.Bool.{and_from, and_parts, eq-eqb, lt-ltb, ltb-true}
use Rattle.std.proofs.lemmas.List.{append-nil, drop_all}
use Rattle.std.specs.List.{list_all}
use Rattle.base64.specs.Engines.{url_safe_no_pad}
use Rattle.std.specs.declared.result.Result.{Result}
use Rattle.std.specs.declared.result.Result.TheVariants.{Ok}
use Rattle.base64.specs.declared.encode.EncodeSliceError.{EncodeSliceError}
use Rattle.base64.specs.GeneralPurpose.{IsBytes, IsEncodedOver, encoded_size_of}
use Rattle.base64.specs.Rfc4648.{encode_symbols}
use Rattle.base64.proofs.RoundTrip.{length-encode_symbols}
use Rattle.base64.proofs.Tables.{all_below_at}
use Rattle.rand_core.specs.Stream.{Stream, next_u64}
use Rattle.mailcore.specs.Draws.{next_mark, pair_bytes}
use Rattle.mailcore.specs.Mark.{is_mark_char, IsMark, SYMBOLS, base64url}

-- each symbol is a character of a mark
symbol_is_mark_char : (k : ℕ) → k < 64 → is_mark_char (slice_index SYMBOLS k) ≡ true
symbol_is_mark_char k small = all_below_at (λ i. is_mark_char (slice_index SYMBOLS i)) 64 k refl small

symbol_and : (k : ℕ) (rest : Bool) → k < 64 → rest ≡ true → (is_mark_char (slice_index SYMBOLS k) && rest) ≡ true
symbol_and k rest small h = and_from (is_mark_char (slice_index SYMBOLS k)) rest (symbol_is_mark_char k small) h

pub list_all-base64url : (bytes : List ℕ) → IsBytes bytes → list_all is_mark_char (base64url bytes) ≡ true
unfolding encode_symbols
list_all-base64url [] h = refl
list_all-base64url (a ∷ []) h =
    let small : a < 256 = h 0 in
    symbol_and (a / 4) _ (omega arith) (symbol_and (a % 4 * 16) true (omega arith) refl)
list_all-base64url (a ∷ b ∷ []) h =
    let small_a : a < 256 = h 0 in
    let small_b : b < 256 = h 1 in
    symbol_and (a / 4) _ (omega arith) (symbol_and (a % 4 * 16 + b / 16) _ (omega arith) (symbol_and (b % 16 * 4) true (omega arith) refl))
list_all-base64url (a ∷ b ∷ c ∷ rest) h =
    let small_a : a < 256 = h 0 in
    let small_b : b < 256 = h 1 in
    let small_c : c < 256 = h 2 in
    symbol_and (a / 4) _ (omega arith)
    (symbol_and (a % 4 * 16 + b / 16) _ (omega arith)
    (symbol_and (b % 16 * 4 + c / 64) _ (omega arith)
    (symbol_and (c % 64) _ (omega arith) (list_all-base64url rest (λ i. h (suc (suc (suc i))))))))

-- nine bytes as text are a mark
pub IsMark-base64url : (bytes : List ℕ) → IsBytes bytes → length bytes ≡ 9 → IsMark (base64url bytes)
IsMark-base64url bytes h nine =
    let twelve : length (base64url bytes) ≡ 12 = length-encode_symbols SYMBOLS bytes ∙ rw nine refl in
    and_from (length (base64url bytes) == 12) (list_all is_mark_char (base64url bytes)) (eq-eqb (length (base64url bytes)) 12 twelve) (list_all-base64url bytes h)

-- what the engine writes over twelve characters is the text of nine bytes
pub encoded_over : (bytes old new : List ℕ) (r : Result ℕ EncodeSliceError) → length bytes ≡ 9 → length old ≡ 12
    → (encoded_size_of url_safe_no_pad (length bytes) ≤ length old → r ≡ Ok (encoded_size_of url_safe_no_pad (length bytes)))
    → OnOk r (IsEncodedOver url_safe_no_pad bytes old new) → new ≡ base64url bytes
encoded_over bytes old new r nine twelve fits written =
    let size : encoded_size_of url_safe_no_pad (length bytes) ≡ 12 = rw nine refl in
    let ok : r ≡ Ok (encoded_size_of url_safe_no_pad (length bytes)) = fits (omega arith) in
    let over : IsEncodedOver url_safe_no_pad bytes old new = rw ok at written in
    let none : drop (encoded_size_of url_safe_no_pad (length bytes)) old ≡ [] = drop_all _ old (omega arith) in
    over ∙ rw none (simp append-nil)

-- each number of a list passes the test
bytes_from : (bytes : List ℕ) → list_all (λ b. nat_lt b 256) bytes ≡ true → IsBytes bytes
bytes_from [] h i = omega arith
bytes_from (b ∷ bytes) h zero = ltb-true b 256 (and_parts (nat_lt b 256) _ h).0
bytes_from (b ∷ bytes) h (suc i) = bytes_from bytes (and_parts (nat_lt b 256) _ h).1 i

-- a low byte is a byte
low_byte_and : (n : ℕ) (rest : Bool) → rest ≡ true → (nat_lt (n % 256) 256 && rest) ≡ true
low_byte_and n rest h = and_from (nat_lt (n % 256) 256) rest (lt-ltb (n % 256) 256 (omega arith)) h

IsBytes-pair_bytes : (first second : ℕ) → IsBytes (pair_bytes first second)
IsBytes-pair_bytes first second = bytes_from (pair_bytes first second)
    (low_byte_and first _ (low_byte_and (first / 256 ^ 1) _ (low_byte_and (first / 256 ^ 2) _
    (low_byte_and (first / 256 ^ 3) _ (low_byte_and (first / 256 ^ 4) _ (low_byte_and (first / 256 ^ 5) _
    (low_byte_and (first / 256 ^ 6) _ (low_byte_and (first / 256 ^ 7) _ (low_byte_and second true refl)))))))))

-- the mark of a pair is a mark
pub IsMark-next_mark : (s : Stream) → IsMark (next_mark s)
IsMark-next_mark s = IsMark-base64url (pair_bytes (next_u64 s).0 (next_u64 (next_u64 s).1).0) (IsBytes-pair_bytes _ _) refl
