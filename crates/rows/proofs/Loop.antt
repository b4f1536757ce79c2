-- What the loop over the records of a text keeps.
use Rattle.std.proofs.Common.{◌≡◌, ◌<◌, ℕ, Bor, List, Some, [], true}
use Rattle.csv.specs.Reading.{Reached, Ready, default_config, source_of, is_flexible}
use Rattle.csv.specs.declared.parser.State.TheVariants as st
use Rattle.csv.specs.declared.reader.Reader.{Reader}
use Rattle.csv.specs.declared.reader.Trim.TheVariants as trim
use Rattle.rows.specs.Rows.{RowList}

-- the closed rows are the records before the rest of the text, and the reader reads on as it began
pub record IsReading (text : List ℕ) (rdr : Reader (Bor (List ℕ))) (left : ℕ) (rows : RowList) : Type 0 where
  pub rest : List ℕ
  pub source : source_of (λ s. Some s.now) rdr ≡ Some rest
  pub reached : Reached default_config st.StartRecord text rows.closed rdr.state rest
  pub none : rows.current ≡ []
  pub config : rdr.config ≡ default_config
  pub trim : rdr.trim ≡ trim.None
  pub ready : Ready rdr
  pub flexible : is_flexible rdr ≡ true
  pub turns : 0 < left
