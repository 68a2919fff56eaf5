-- Messages whose flags have a name, and one more.
use Rattle.std.proofs.Common.{◌≡◌, List, [], ◌∷◌, ◌++◌, map, sym, subst}
use Rattle.std.proofs.lemmas.List.{map-append}
use Rattle.std.proofs.lemmas.List.Elements.{All-push}
use Rattle.mailcore.specs.declared.keywords.Keyword.{Keyword}
use Rattle.mailcore.specs.declared.listing.Item.{Item}
use Rattle.mailcore.specs.declared.mailbox.Message.{Message}
use Rattle.mailcore.specs.KeywordNames.{IsWithin}
use Rattle.mailcore.specs.Stores.{Waiting}
use Rattle.worlds.specs.declared.world.WaitingFile.{WaitingFile}
use Rattle.worlds.specs.Worlds.{AreListedNamed, AreNamed, waiting_of}

pub message_more : (keywords : List Keyword) (old new : List Message) (m : Message) (waiting : List Waiting) → AreNamed keywords old waiting → IsWithin keywords m.flags
    → new ≡ old ++ m ∷ [] → AreNamed keywords new waiting
message_more keywords old new m waiting named within is =
    subst (λ (ms : List Message). AreNamed keywords ms waiting) (sym is) record {
      there = All-push (λ (x : Message). IsWithin keywords x.flags) old m named.there within;
      waits = named.waits;
    }

pub file_more : (keywords : List Keyword) (messages : List Message) (old new : List WaitingFile) (f : WaitingFile) → AreNamed keywords messages (map waiting_of old) → IsWithin keywords f.flags
    → new ≡ old ++ f ∷ [] → AreNamed keywords messages (map waiting_of new)
file_more keywords messages old new f named within is =
    let more : AreNamed keywords messages (map waiting_of old ++ waiting_of f ∷ []) = record {
      there = named.there;
      waits = All-push (λ (x : Waiting). IsWithin keywords x.flags) (map waiting_of old) (waiting_of f) named.waits within;
    } in
    let P : List Waiting → Type 0 = λ ws. AreNamed keywords messages ws in
    let Q : List WaitingFile → Type 0 = λ fs. AreNamed keywords messages (map waiting_of fs) in
    subst Q (sym is) (subst P (sym (map-append waiting_of old (f ∷ []))) more)

pub item_more : (keywords : List Keyword) (old new : List Item) (i : Item) → AreListedNamed keywords old → IsWithin keywords i.flags → new ≡ old ++ i ∷ [] → AreListedNamed keywords new
item_more keywords old new i named within is =
    subst (λ (items : List Item). AreListedNamed keywords items) (sym is) (All-push (λ (x : Item). IsWithin keywords x.flags) old i named within)
