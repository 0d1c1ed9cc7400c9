-- What a borrowed name stands for.
use denote.Ref.{Bor}
use Rattle.erd_meaning.specs.NameParts.{NameParts}

abbrev pub lent : Bor NameParts → NameParts
lent name = name.now
