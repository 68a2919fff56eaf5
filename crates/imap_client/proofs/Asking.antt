-- What calls send is sent in one line.
use Rattle.std.proofs.Common.{◌≡◌, ◌≤◌, ℕ, ◌+◌, ◌*◌, false, List, [], ◌∷◌, length, refl, arith}
use Rattle.std.specs.List.{fold}
use Rattle.wire_tokens.specs.declared.uid_set.SetItem.{SetItem}
use Rattle.wire_tokens.specs.Room.{most_item, most_set}
use Rattle.wire_tokens.proofs.FlagTexts.{set_names_few}
use Rattle.imap_client.specs.declared.call.Call.{Call}
use Rattle.imap_client.specs.declared.call.Call.TheVariants as calls
use Rattle.imap_session.specs.Ends.{is_logout}
use Rattle.imap_client.specs.Requests.{IsPlain}
use Rattle.imap_client.specs.Calls.{request_of, CanAsk, each_one}

ones_from : (n : ℕ) (uids : List ℕ) → fold (λ a (x : SetItem). a + (most_item x + 1)) n (each_one uids) ≤ n + 11 * length uids
ones_from n [] = omega arith
ones_from n (u ∷ uids) = let h = ones_from (n + 11) uids in omega (arith, h)

ones_room : (uids : List ℕ) → most_set (each_one uids) ≤ 11 * length uids
ones_room uids = let h = ones_from 0 uids in omega (arith, h)

pub asked_plain : (c : Call) → CanAsk c → IsPlain (request_of c)
asked_plain calls.Capability h = tt
asked_plain (calls.Login user password) h = h
asked_plain calls.Enable h = refl
asked_plain calls.Names h = omega arith
asked_plain (calls.Create name) h = h
asked_plain (calls.Select name) h = h
asked_plain calls.Listing h = omega arith
asked_plain (calls.Body uid) h = omega arith
asked_plain (calls.Heads from) h = omega arith
asked_plain (calls.Store uid mode flags keywords) h = let few = set_names_few keywords.now flags h in omega (arith, few)
asked_plain (calls.Expunge uids) h = let room = ones_room uids.now in let most = h.1 in omega (arith, room, most)

pub asked_stays : (c : Call) → is_logout (request_of c) ≡ false
asked_stays calls.Capability = refl
asked_stays (calls.Login user password) = refl
asked_stays calls.Enable = refl
asked_stays calls.Names = refl
asked_stays (calls.Create name) = refl
asked_stays (calls.Select name) = refl
asked_stays calls.Listing = refl
asked_stays (calls.Body uid) = refl
asked_stays (calls.Heads from) = refl
asked_stays (calls.Store uid mode flags keywords) = refl
asked_stays (calls.Expunge uids) = refl
