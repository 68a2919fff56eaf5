-- Addresses of servers.
use Rattle.std.specs.Prelude.{ℕ, Bool, false, ◌==◌, ◌&&◌, not, List, [], ◌∷◌, ◌++◌, codes, decimal, string_bytes, if◌then◌else◌}
use Rattle.std.specs.List.{list_any}
use Rattle.config.specs.declared.config.ImapStore.{ImapStore}

-- whether a host begins with `[` (91)
abbrev pub is_in_brackets : List ℕ → Bool
is_in_brackets [] = false
is_in_brackets (b ∷ bs) = b == 91

-- whether a host has a colon (58)
abbrev pub has_colon : List ℕ → Bool
has_colon host = list_any (λ b. b == 58) host

-- whether a host is an IPv6 address that stands in no brackets yet
abbrev pub wants_brackets : List ℕ → Bool
wants_brackets host = has_colon host && not (is_in_brackets host)

-- the address of the server of a store: its host and its port, with a colon between
abbrev pub address_of : ImapStore → List ℕ
address_of store =
    if wants_brackets (string_bytes store.host) then codes "[" ++ (string_bytes store.host ++ (codes "]:" ++ decimal store.port))
    else string_bytes store.host ++ (codes ":" ++ decimal store.port)
