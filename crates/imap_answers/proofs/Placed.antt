-- Octets that stand at a place of a scanner.
use Rattle.std.proofs.Common.{◌≡◌, ◌≤◌, ℕ, ◌+◌, ◌-◌, Bool, true, List, ◌++◌, length, take, drop, arith, refl, sym, ap, ◌∙◌, length-drop, take-append-drop, append_assoc, Some}
use Rattle.std.specs.Prelude.{eqb}
use Rattle.std.specs.List.{starts_with}
use Rattle.std.proofs.Math.Seq.{take-append_seam}
use Rattle.std.proofs.lemmas.Bool.Decides.{Decides-eqb}
use Rattle.std.proofs.lemmas.List.{length-take, drop-take, drop-drop}
use Rattle.std.proofs.lemmas.Slice.Eq.{starts_is}
use Rattle.wire_reader.specs.declared.scanner.Scanner.{Scanner}
use Rattle.wire_reader.specs.Scanning.{first_place}
use Rattle.imap_link.proofs.BufferExits.{slice_is}
use Rattle.imap_link.proofs.Places.{place_within}

pub next_within : (done : ℕ) (scanner : Scanner) (text : List ℕ) (count : ℕ) → done ≤ length text
    → Some count ≡ first_place scanner (take (length text - done) (drop done text)) → done + count ≤ length text
next_within done scanner text count h e =
    place_within text (drop done text) done count scanner (omega (arith, h, length-drop done text)) (e ∙ ap (first_place scanner) (slice_is text text done refl))

pub octets_at : (text octets : List ℕ) (place : ℕ) (r : Bool) → r ≡ starts_with eqb (take (length text - place) (drop place text)) octets → r ≡ true → take (length octets) (drop place text) ≡ octets
octets_at text octets place r e t =
    let following = take (length text - place) (drop place text) in
    ap (take (length octets)) (sym (slice_is text text place refl) ∙ (starts_is Decides-eqb following octets r e).0 t) ∙ take-append_seam octets (drop (length octets) following)

begins_on : (octets front back : List ℕ) → take (length octets) front ≡ octets → take (length octets) (front ++ back) ≡ octets
begins_on octets front back e =
    let following = drop (length octets) front in
    let parts = sym (take-append-drop (length octets) front) ∙ ap (λ (l : List ℕ). l ++ following) e in
    ap (λ (l : List ℕ). take (length octets) (l ++ back)) parts ∙ ap (take (length octets)) (append_assoc octets following back) ∙ take-append_seam octets (following ++ back)

-- what stands in a part of the bytes stands in the bytes
pub in_bytes : (bytes octets : List ℕ) (start len place : ℕ) → place ≤ length (take len (drop start bytes)) → take (length octets) (drop place (take len (drop start bytes))) ≡ octets
    → take (length octets) (drop (start + place) bytes) ≡ octets
in_bytes bytes octets start len place h e =
    let following = drop start bytes in
    let room : place + (len - place) ≡ len = omega (arith, h, length-take len following) in
    let part : drop place (take len following) ≡ take (len - place) (drop place following) = ap (λ (n : ℕ). drop place (take n following)) (sym room) ∙ drop-take place (len - place) following in
    let whole = take-append-drop (len - place) (drop place following) in
    ap (take (length octets)) (sym (drop-drop place start bytes) ∙ sym whole)
    ∙ begins_on octets (take (len - place) (drop place following)) (drop (len - place) (drop place following)) (ap (take (length octets)) (sym part) ∙ e)
