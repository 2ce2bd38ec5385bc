-- What is read of rows.
use Rattle.std.specs.Prelude.{[]}
use Rattle.stark_air.specs.Layout.{Layout}
use Rattle.stark_air.specs.Rows.{layout_of}
use Rattle.protocol_tests.specs.declared.kinds.ReadRows.{ReadRows}

-- How much there is to be read of each kind, and no preprocessed row after the current one.
abbrev pub layout_read : {F E : Type 0} → ReadRows F E → Layout
layout_read rows = layout_of rows.local.now rows.next.now rows.preprocessed.now [] rows.public_values.now rows.periodic.now
