-- What becomes of a file that is opened and read.
use Rattle.std.specs.Prelude.{◌≡◌, ℕ, Option, Some, None, List}
use Rattle.std.specs.Io.KnownBytes.{Consumes}
use Rattle.mpicall.specs.Device.{one_more}

-- it can't be opened; it is opened; or it is opened, and a read of it fails
pub data Fate : Type 0 where
  Unopened : Fate
  Opened : Fate
  ReadFailed : Fate

-- the inputs of an opener, of which are known the bytes that are left, and how many reads have failed; and what the
-- opener may answer where a path is to be opened
module _ {I : Type 0} (left : I → Option (List ℕ)) (failures : I → ℕ) (may_give : List ℕ → Option I → Type 0) where
  -- the opener gave an input for the path, and after some of its bytes one read of it failed
  pub record HasFailedRead (path : List ℕ) : Type 0 where
    pub given : I
    pub is_given : may_give path (Some given)
    pub failed : I
    pub came : List ℕ
    pub behind : Consumes (left given) (left failed) came
    pub count : failures failed ≡ one_more (failures given)

  -- this may become of the file with a path
  abbrev pub fate_of : List ℕ → Fate → Type 0
  fate_of path Unopened = may_give path None
  fate_of path Opened = (input : I) × may_give path (Some input)
  fate_of path ReadFailed = HasFailedRead path
