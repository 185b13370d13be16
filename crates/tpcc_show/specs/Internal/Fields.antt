-- The texts of a field, or of several in a row.
use Rattle.std.specs.Prelude.{ℕ, List, [], ◌∷◌, decimal}
use Rattle.tpcc_money.specs.Texts.{amount_text, rate_text, moment_text}
use Rattle.tpcc_show.specs.declared.table_dump.fields.Field.{Field}
use Rattle.tpcc_show.specs.declared.table_dump.fields.Field.TheVariants as field
use Rattle.tpcc_show.specs.Records.{address_fields}

abbrev pub field_texts : Field → List (List ℕ)
field_texts (field.Text text) = text.now ∷ []
field_texts (field.Number n) = decimal n ∷ []
field_texts (field.Amount amount) = amount_text amount ∷ []
field_texts (field.Rate rate) = rate_text rate ∷ []
field_texts (field.Moment at) = moment_text at ∷ []
field_texts (field.Address address) = address_fields address.now
field_texts (field.Texts texts) = texts.now
