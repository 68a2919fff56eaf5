-- A name within the limits is ASCII.
use Rattle.std.proofs.Common.{◌≡◌, ◌<◌, ℕ, zero, suc, true, List, arith, length, [], ◌∷◌}
use Rattle.std.specs.Prelude.{nat_le, ◌&&◌, ◌==◌, slice_index}
use Rattle.std.specs.List.{list_all, slice_split}
use Rattle.std.specs.Str.{IsAscii}
use Rattle.std.proofs.lemmas.Bool.{and_parts}
use Rattle.std.proofs.lemmas.Bool.Decides.{nat_tests}
use Rattle.mailcore.specs.MailboxNames.{is_name_byte, is_name_part, is_mailbox_name}

below : (b : ℕ) → is_name_byte b ≡ true → b < 128
below b h = grind (arith, nat_tests)

all_below : (name : List ℕ) → list_all is_name_byte name ≡ true → (i : ℕ) → slice_index name i < 128
all_below [] h i = omega arith
all_below (b ∷ bs) h zero = below b ((and_parts (is_name_byte b) (list_all is_name_byte bs) h).0)
all_below (b ∷ bs) h (suc i) = all_below bs ((and_parts (is_name_byte b) (list_all is_name_byte bs) h).1) i

pub name_bytes : (name : List ℕ) → is_mailbox_name name ≡ true → list_all is_name_byte name ≡ true
name_bytes name h =
    let front = (and_parts (nat_le (length name) 255 && list_all is_name_byte name) (list_all is_name_part (slice_split (λ b. b == 47) name)) h).0 in
    (and_parts (nat_le (length name) 255) (list_all is_name_byte name) front).1

pub name_is_ascii : (name : List ℕ) → is_mailbox_name name ≡ true → IsAscii name
name_is_ascii name h =
    all_below name (name_bytes name h)
