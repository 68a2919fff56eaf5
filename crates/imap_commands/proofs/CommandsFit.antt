-- How many bytes of a command stand outside the octets of literals as it is written, at most.
use Rattle.std.proofs.Common.{◌≡◌, ℕ, ◌+◌, ◌*◌, ◌≤◌, List, [], ◌∷◌, length, refl}
use Rattle.wire_reader.specs.declared.side.Speaker.TheVariants.{Replies}
use Rattle.wire_reader.specs.declared.lexical.Phase.TheVariants.{Plain}
use Rattle.wire_reader.specs.Spelling.{Is, crlf}
use Rattle.wire_reader.specs.Lexical.{phase, outside}
use Rattle.wire_reader.proofs.Fitting.{Fits, then_few, is_few, is_fits}
use Rattle.wire_tokens.specs.Room.{most_set, most_names, most_flags}
use Rattle.wire_tokens.proofs.TokensFit.{tag_fits, names_fit, set_fits, flags_fit}
use Rattle.wire_strings.specs.Room.{most_literal, most_string}
use Rattle.wire_strings.proofs.StringsFit.{string_fits, quoted_fits, literal_fits}
use Rattle.imap_commands.specs.declared.verb.Verb.{Verb}
use Rattle.imap_commands.specs.declared.verb.Verb.TheVariants as verbs
use Rattle.imap_commands.specs.declared.command.FetchItems.{FetchItems}
use Rattle.imap_commands.specs.declared.command.FetchItems.TheVariants as items
use Rattle.imap_commands.specs.declared.command.StoreMode.{StoreMode}
use Rattle.imap_commands.specs.declared.command.StoreMode.TheVariants as modes
use Rattle.imap_commands.specs.declared.command.Request.{Request}
use Rattle.imap_commands.specs.declared.command.Request.TheVariants as requests
use Rattle.imap_commands.specs.declared.command.Command.{Command}
use Rattle.imap_commands.specs.Verbs.{word_of}
use Rattle.imap_commands.specs.Requests.{verb_of, items_word, mode_word}
use Rattle.imap_commands.specs.Writing.{WrittenMessage, WrittenRequest, Written}
use Rattle.imap_commands.specs.Room.{most_after, most_outside}

plain_verb : (k : Verb) → phase Plain (word_of k) ≡ Plain
plain_verb verbs.Capability = refl
plain_verb verbs.Noop = refl
plain_verb verbs.Logout = refl
plain_verb verbs.Login = refl
plain_verb verbs.Enable = refl
plain_verb verbs.List = refl
plain_verb verbs.Create = refl
plain_verb verbs.Select = refl
plain_verb verbs.Append = refl
plain_verb verbs.Fetch = refl
plain_verb verbs.Store = refl
plain_verb verbs.Expunge = refl

plain_items : (k : FetchItems) → phase Plain (items_word k) ≡ Plain
plain_items items.Listing = refl
plain_items items.Body = refl
plain_items items.Head = refl

plain_mode : (k : StoreMode) → phase Plain (mode_word k) ≡ Plain
plain_mode modes.Add = refl
plain_mode modes.Remove = refl

space_fits : (t : List ℕ) → Is (32 ∷ []) t → Fits 1 t
space_fits = is_fits (32 ∷ []) refl

end_few : (t : List ℕ) → Is crlf t → outside t ≤ 2
end_few = is_few crlf

message_fits : (message t : List ℕ) → WrittenMessage message t → Fits most_literal t
message_fits message t h = literal_fits Replies message t (h Replies).0

after_few : (r : Request) (t : List ℕ) → WrittenRequest r t → outside t ≤ most_after r
after_few requests.Capability t h = end_few t h
after_few requests.Noop t h = end_few t h
after_few requests.Logout t h = end_few t h
after_few (requests.Login user password) t h =
    then_few (most_string user) (1 + (most_string password + 2)) (string_fits user) (then_few 1 (most_string password + 2) space_fits (then_few (most_string password) 2 (string_fits password) end_few)) t h
after_few (requests.Enable names) t h = then_few (most_names names) 2 (names_fit names) end_few t h
after_few (requests.List pattern) t h = then_few (2 * length pattern + 2) 2 (quoted_fits pattern) end_few t h
after_few (requests.Create mailbox) t h = then_few (most_string mailbox) 2 (string_fits mailbox) end_few t h
after_few (requests.Select mailbox) t h = then_few (most_string mailbox) 2 (string_fits mailbox) end_few t h
after_few (requests.Append mailbox flags message) t h =
    then_few (most_string mailbox) (1 + (most_flags flags + (1 + (most_literal + 2)))) (string_fits mailbox)
    (then_few 1 (most_flags flags + (1 + (most_literal + 2))) space_fits
    (then_few (most_flags flags) (1 + (most_literal + 2)) (flags_fit flags)
    (then_few 1 (most_literal + 2) space_fits (then_few most_literal 2 (message_fits message) end_few)))) t h
after_few (requests.Fetch set what) t h =
    then_few (most_set set) (1 + (length (items_word what) + 2)) (set_fits set)
    (then_few 1 (length (items_word what) + 2) space_fits (then_few (length (items_word what)) 2 (is_fits (items_word what) (plain_items what)) end_few)) t h
after_few (requests.Store set mode flags) t h =
    then_few (most_set set) (1 + (length (mode_word mode) + (most_flags flags + 2))) (set_fits set)
    (then_few 1 (length (mode_word mode) + (most_flags flags + 2)) space_fits
    (then_few (length (mode_word mode)) (most_flags flags + 2) (is_fits (mode_word mode) (plain_mode mode)) (then_few (most_flags flags) 2 (flags_fit flags) end_few))) t h
after_few (requests.Expunge set) t h = then_few (most_set set) 2 (set_fits set) end_few t h

pub command_few : (c : Command) (t : List ℕ) → Written c t → outside t ≤ most_outside c
command_few c t h =
    let word = word_of (verb_of c.request) in
    let following = most_after c.request in
    then_few (length c.tag) (1 + (length word + following)) (tag_fits c.tag)
    (then_few 1 (length word + following) space_fits (then_few (length word) following (is_fits word (plain_verb (verb_of c.request))) (after_few c.request))) t h
