-- The words that are printed of a file. Assumes nothing.
use Rattle.print.specs.Text.{Text, codes}

-- before the last height
abbrev pub height : Text
height = codes "height "

-- before the number of pending records
abbrev pub pending : Text
pending = codes "pending "

-- before the number of confirmed records
abbrev pub confirmed : Text
confirmed = codes "confirmed "

-- before the name of an answer
abbrev pub refused : Text
refused = codes "refused "

-- between a target and its rate, and before a version
abbrev pub space : Text
space = codes " "

-- in place of a height or a rate
abbrev pub dash : Text
dash = codes "-"

-- the end of a line
abbrev pub end : Text
end = codes "\n"

-- ---- document 01's names of the answers

abbrev pub damaged : Text
damaged = codes "Damaged"

abbrev pub bad_magic : Text
bad_magic = codes "BadMagic"

abbrev pub unknown_version : Text
unknown_version = codes "UnknownVersion"

abbrev pub corrupt : Text
corrupt = codes "Corrupt"

abbrev pub no_room : Text
no_room = codes "NoRoom"

abbrev pub too_long : Text
too_long = codes "TooLong"
