-- A lent table that has passed its input checks, as the rules' table.
use Rattle.doolittle.specs.Table.{Table, table_of}
use Rattle.doolittle.specs.declared.SoundTable.{SoundTable}

abbrev pub table_in : SoundTable → Table
table_in lent = table_of lent.q.now lent.a.now lent.w.now
