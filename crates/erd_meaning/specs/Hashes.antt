-- What a hasher is given of a key and of a selection's name.
use Rattle.std.specs.Prelude.{◌++◌}
use Rattle.std.specs.Hash.{HashWrites, str, slice, option, bool, i128}
use Rattle.erd_tables.specs.Classes.{text_of_class}
use Rattle.erd_meaning.specs.NameParts.{NameParts}
use Rattle.erd_meaning.specs.declared.keys.key.Key.{Key}

-- What the hasher is given of a key: its three texts.
abbrev pub key_writes : Key → HashWrites
key_writes k = str k.kind ++ (str k.other ++ str k.value)

-- What the hasher is given of the parts of a name after its keys.
abbrev pub after_keys_writes : NameParts → HashWrites
after_keys_writes n = bool n.write_in ++ (option i128 n.order ++ (option str n.label ++ option key_writes n.identifier))

-- What the hasher is given of a whole name: its six parts.
abbrev pub name_writes : NameParts → HashWrites
name_writes n = str (text_of_class n.class) ++ (slice key_writes n.keys ++ after_keys_writes n)
