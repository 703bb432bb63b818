-- What lent records of a result say. (This project's own.)
use Rattle.book_words.specs.declared.history.Said.{Said}
use Rattle.book_words.specs.declared.history.Said.TheVariants.{Plain, Http}
use Rattle.capture_file.specs.declared.entries.SaidRecord.{SaidRecord}
use Rattle.capture_file.specs.declared.entries.SaidRecord.TheVariants.{Plain as PlainRecord}
use Rattle.capture_file.specs.declared.entries.SaidRecord.TheVariants.{Http as HttpRecord}

-- the words that lent words say
abbrev pub said_of : SaidRecord → Said
said_of (PlainRecord reply) = Plain reply
said_of (HttpRecord bytes) = Http bytes
