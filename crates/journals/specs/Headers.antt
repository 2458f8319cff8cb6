-- What a header that was read says.
use Rattle.journals.specs.Header.{Heading}
use Rattle.journals.specs.declared.header.HeaderLine.{HeaderLine}

abbrev pub heading : HeaderLine → Heading
heading header = record { ranks = header.ranks; run = header.run.now; is_outside = header.is_outside }
