-- The flags that a name bears, and the name that bears others.
use Rattle.std.specs.Prelude.{ℕ, List, [], Some, unwrap_or}
use Rattle.std.specs.Option.{option_map}
use Rattle.mailcore.specs.declared.keywords.Keyword.{Keyword}
use Rattle.mailcore.specs.KeywordNames.{kept}
use Rattle.maildir.specs.Letters.{flags_in, letters_with}
use Rattle.maildir.specs.Names.{NameParts, name_of, name_text}

-- the letters of a name, none where `:2,` does not stand there
abbrev pub letters_in : NameParts → List ℕ
letters_in name = unwrap_or name.letters []

-- the letters in a text, none where it spells no name
abbrev pub letters_by_name : List ℕ → List ℕ
letters_by_name name = unwrap_or (option_map letters_in (name_of name)) []

-- the flags of the message in a file with this name: those of its letters that have a name in IMAP
abbrev pub flags_by_name : List Keyword → List ℕ → ℕ
flags_by_name keywords name = kept keywords (flags_in (letters_by_name name))

-- the name of the same file once its message has these flags: base, UID and letters that are not known are kept
abbrev pub flagged : List Keyword → NameParts → ℕ → List ℕ
flagged keywords name flags =
    name_text (record { base = name.base; uid = name.uid; letters = Some (letters_with keywords (letters_in name) flags) })
