-- What is written is a spelling.
use Rattle.std.proofs.Common.{◌≡◌, ℕ, List, map, refl}
use Rattle.wire_reader.specs.declared.side.Speaker.TheVariants.{Commands}
use Rattle.wire_reader.specs.Spelling.{upper}
use Rattle.imap_commands.specs.declared.verb.Verb.{Verb}
use Rattle.imap_commands.specs.declared.verb.Verb.TheVariants as verbs
use Rattle.imap_commands.specs.declared.command.FetchItems.{FetchItems}
use Rattle.imap_commands.specs.declared.command.FetchItems.TheVariants as items
use Rattle.imap_commands.specs.declared.command.StoreMode.{StoreMode}
use Rattle.imap_commands.specs.declared.command.StoreMode.TheVariants as modes
use Rattle.imap_commands.specs.declared.command.Request.{Request}
use Rattle.imap_commands.specs.declared.command.Request.TheVariants as requests
use Rattle.imap_commands.specs.declared.command.Command.{Command}
use Rattle.imap_commands.specs.Verbs.{word_of}
use Rattle.imap_commands.specs.Requests.{verb_of, items_word, mode_word, AString, RequestText}
use Rattle.imap_commands.specs.Commands.{Spelled}
use Rattle.imap_commands.specs.Writing.{WrittenText, WrittenRequest, Written}
use Rattle.wire_strings.proofs.StringsFit.{written_value}
use Rattle.wire_reader.proofs.Written.{on_both, on_first, on_second, in_any_case}

upper_verb : (k : Verb) → map upper (word_of k) ≡ word_of k
upper_verb verbs.Capability = refl
upper_verb verbs.Noop = refl
upper_verb verbs.Logout = refl
upper_verb verbs.Login = refl
upper_verb verbs.Enable = refl
upper_verb verbs.List = refl
upper_verb verbs.Create = refl
upper_verb verbs.Select = refl
upper_verb verbs.Append = refl
upper_verb verbs.Fetch = refl
upper_verb verbs.Store = refl
upper_verb verbs.Expunge = refl

upper_items : (k : FetchItems) → map upper (items_word k) ≡ items_word k
upper_items items.Listing = refl
upper_items items.Body = refl
upper_items items.Head = refl

upper_mode : (k : StoreMode) → map upper (mode_word k) ≡ mode_word k
upper_mode modes.Add = refl
upper_mode modes.Remove = refl

text_spelled : (bytes t : List ℕ) → WrittenText bytes t → AString bytes t
text_spelled bytes t h = written_value Commands bytes t h

request_spelled : (r : Request) (t : List ℕ) → WrittenRequest r t → RequestText r t
request_spelled requests.Capability t h = h
request_spelled requests.Noop t h = h
request_spelled requests.Logout t h = h
request_spelled (requests.Login user password) t h = on_both (text_spelled user) (on_second (on_first (text_spelled password))) t h
request_spelled (requests.Enable names) t h = h
request_spelled (requests.List pattern) t h = h
request_spelled (requests.Create mailbox) t h = on_first (text_spelled mailbox) t h
request_spelled (requests.Select mailbox) t h = on_first (text_spelled mailbox) t h
request_spelled (requests.Append mailbox flags message) t h = on_both (text_spelled mailbox) (on_second (on_second (on_second (on_first (λ _ m. m Commands))))) t h
request_spelled (requests.Fetch set what) t h = on_second (on_second (on_first (in_any_case (items_word what) (upper_items what)))) t h
request_spelled (requests.Store set mode flags) t h = on_second (on_second (on_first (in_any_case (mode_word mode) (upper_mode mode)))) t h
request_spelled (requests.Expunge set) t h = h

pub written_spelled : (c : Command) (t : List ℕ) → Written c t → Spelled c t
written_spelled c t h = on_second (on_second (on_both (in_any_case (word_of (verb_of c.request)) (upper_verb (verb_of c.request))) (request_spelled c.request))) t h
