-- A fragment without where its data lies in memory.
use Rattle.std.specs.Prelude.{ℕ, List}
use Rattle.sal_wire.specs.declared.fragment.Fragment.{Fragment}

pub record FragmentFields : Type 0 where
  pub session : ℕ
  pub serial : ℕ
  pub number : ℕ
  pub floor : ℕ
  pub source : List ℕ
  pub target : List ℕ
  pub index : ℕ
  pub count : ℕ
  pub pause : ℕ
  pub width : ℕ
  pub height : ℕ
  pub rate : ℕ × ℕ
  pub bytes : List ℕ

abbrev pub fields_of : Fragment → FragmentFields
fields_of f = record {
  session = f.session;
  serial = f.serial;
  number = f.number;
  floor = f.floor;
  source = f.source.0;
  target = f.target.0;
  index = f.index;
  count = f.count;
  pause = f.pause;
  width = f.width;
  height = f.height;
  rate = f.rate;
  bytes = f.bytes.now;
}
