-- What some lines mean: both sides compute to the same.
use Rattle.std.specs.Prelude.{◌≡◌, true, false, List, [], ◌∷◌, ◌++◌, Some, None, codes, refl}
use Rattle.config.specs.declared.config.Boxes.TheVariants.{Pair, Matching}
use Rattle.config_words.specs.declared.keyword.FirstWord.TheVariants as keyword
use Rattle.config_words.specs.declared.keyword.LinePlace.TheVariants as place
use Rattle.config_words.specs.Meanings.{SectionIs, GroupIs, HostIs, PortIs, UserIs, PassIs, PathIs, FarIs, NearIs, PatternsAre, CreateIs, ExpungeIs, KeywordIs, ChannelsAre, said}
use Rattle.config.specs.Configurations.{Meaning, Part, Parts, meaning_of, outside}
use Rattle.config.specs.Sections.{ChannelMeaning, GroupMeaning, ImapMeaning, MaildirMeaning, everything, neither}
use Rattle.config_words.specs.declared.fault.FaultKind.TheVariants.{KeywordGiven}
use Rattle.config.specs.Standing.{faults_again}
use Rattle.texts.specs.Lines.{lines_of}

-- an empty BOX names no mailbox; STORE goes up to the next colon
empty_box : said keyword.Near (codes ":n:" ∷ []) ≡ Some (NearIs (codes "n") None)
empty_box = refl

box_with_colon : said keyword.Far (codes ":f:a:b" ∷ []) ≡ Some (FarIs (codes "f") (Some (codes "a:b")))
box_with_colon = refl

path_without_slash : said keyword.Path (codes "~/mail" ∷ []) ≡ None
path_without_slash = refl

far_alone : said keyword.Create (codes "Far" ∷ []) ≡ Some (CreateIs (record { far = true; near = false }))
far_alone = refl

group_without_channels : said keyword.Group (codes "g" ∷ []) ≡ Some (GroupIs (codes "g") [])
group_without_channels = refl

cut_at_feeds : lines_of (codes "a" ++ (10 ∷ 10 ∷ []) ++ codes "b") ≡ codes "a" ∷ [] ∷ codes "b" ∷ []
cut_at_feeds = refl

-- a letter from a to z, and a name that is an atom and none of a flag with a letter of its own
letter_and_name : said keyword.Keyword (codes "a" ∷ codes "$Label1" ∷ []) ≡ Some (KeywordIs (record { letter = 97; name = codes "$Label1" }))
letter_and_name = refl

capital : said keyword.Keyword (codes "A" ∷ codes "Junk" ∷ []) ≡ None
capital = refl

two_letters : said keyword.Keyword (codes "ab" ∷ codes "Junk" ∷ []) ≡ None
two_letters = refl

no_atom : said keyword.Keyword (codes "a" ∷ codes "a]" ∷ []) ≡ None
no_atom = refl

forwarded : said keyword.Keyword (codes "p" ∷ codes "$forwarded" ∷ []) ≡ None
forwarded = refl

-- lines that give a letter or a name again, before any section and in a channel; each channel has its own
given_twice : faults_again (codes "Keyword a x" ++ 10 ∷ codes "Keyword b X" ++ 10 ∷ codes "Channel c" ++ 10 ∷ codes "keyword a x" ++ 10 ∷ codes "Keyword a y" ++ [])
    ≡ record { line = 2; kind = KeywordGiven } ∷ record { line = 5; kind = KeywordGiven } ∷ []
unfolding lib.Utf8.encode
given_twice = refl

-- the channel's own Expunge and keywords, the Create of the lines before any section; the stores by their names, and INBOX where no
-- mailbox is named
abbrev sections : List Part
sections =
    record { kind = place.ImapStore; name = codes "z"; says = SectionIs (codes "z") ∷ HostIs (codes "h") ∷ PassIs (codes "p") ∷ UserIs (codes "u") ∷ [] }
    ∷ record { kind = place.ImapStore; name = codes "f"; says = SectionIs (codes "f") ∷ PortIs 993 ∷ [] }
    ∷ record { kind = place.MaildirStore; name = codes "n"; says = SectionIs (codes "n") ∷ PathIs (codes "/") ∷ [] }
    ∷ record {
      kind = place.Channel;
      name = codes "c";
      says = SectionIs (codes "c") ∷ FarIs (codes "f") (Some (codes "A")) ∷ NearIs (codes "n") None ∷ ExpungeIs (record { far = false; near = true })
          ∷ KeywordIs (record { letter = 98; name = codes "Junk" }) ∷ KeywordIs (record { letter = 97; name = codes "$Label1" }) ∷ [];
    }
    ∷ record {
      kind = place.Channel;
      name = codes "d";
      says = SectionIs (codes "d") ∷ FarIs (codes "z") None ∷ NearIs (codes "n") None ∷ PatternsAre (codes "*" ∷ []) ∷ PatternsAre (codes "!b" ∷ []) ∷ [];
    }
    ∷ record { kind = place.Group; name = codes "g"; says = GroupIs (codes "g") (codes "c" ∷ []) ∷ ChannelsAre (codes "d" ∷ []) ∷ [] } ∷ []

whole_text : meaning_of (record {
  before = CreateIs (record { far = true; near = false }) ∷ ExpungeIs (record { far = true; near = true })
      ∷ KeywordIs (record { letter = 122; name = codes "Junk" }) ∷ [];
  ended = sections;
  current = outside place.Between;
})
    ≡ record {
      imap_stores =
          record { name = codes "z"; host = Some (codes "h"); port = 143; user = Some (codes "u"); pass = Some (codes "p") }
          ∷ record { name = codes "f"; host = None; port = 993; user = None; pass = None } ∷ [];
      maildir_stores = record { name = codes "n"; path = Some (codes "/"); inbox = codes "~/Maildir" } ∷ [];
      channels =
          record {
            name = codes "c";
            far = Some 1;
            near = Some 0;
            boxes = Pair (codes "A") (codes "INBOX");
            cells = everything;
            create = record { far = true; near = false };
            expunge = record { far = false; near = true };
            keywords = record { letter = 97; name = codes "$Label1" } ∷ record { letter = 98; name = codes "Junk" } ∷ [];
          }
          ∷ record {
            name = codes "d";
            far = Some 0;
            near = Some 0;
            boxes = Matching (codes "*" ∷ codes "!b" ∷ []);
            cells = everything;
            create = record { far = true; near = false };
            expunge = record { far = true; near = true };
            keywords = record { letter = 122; name = codes "Junk" } ∷ [];
          } ∷ [];
      groups = record { name = codes "g"; channels = codes "c" ∷ codes "d" ∷ [] } ∷ [];
    }
whole_text = refl
