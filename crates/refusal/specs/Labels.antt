-- The number and the values of every refusal, its text, and replies. Assumes nothing.
use Rattle.std.specs.Prelude.{ℕ, List, [], ◌∷◌, ◌++◌, Ok, Err, Some, Option, codes, decimal, Result}
use Rattle.refusal.specs.declared.Refusal.{Refusal}
use Rattle.refusal.specs.declared.Refusal.TheVariants.{NoSuchClient, AlreadyOpen, NumbersUsedUp, NoTransaction, Yields, NoSuchCell, TableFull, LengthNotAdmitted, BlockNumberWrong, BlockCountWrong, BlockCheckWrong, WindowBeyondLimit, ListFull}

-- A number with its values.
pub record Label : Type 0 where
  pub number : ℕ
  pub values : List ℕ

abbrev pub labelled : ℕ → List ℕ → Label
labelled n vs = record { number = n; values = vs }

-- The label of each refusal. The values are: of a yield, the client and the cell; of a block, which one.
abbrev pub label_of : Refusal → Label
label_of NoSuchClient = labelled 1 []
label_of AlreadyOpen = labelled 2 []
label_of NumbersUsedUp = labelled 3 []
label_of NoTransaction = labelled 4 []
label_of (Yields client cell) = labelled 5 (client ∷ cell ∷ [])
label_of NoSuchCell = labelled 6 []
label_of TableFull = labelled 7 []
label_of LengthNotAdmitted = labelled 8 []
label_of (BlockNumberWrong block) = labelled 9 (block ∷ [])
label_of (BlockCountWrong block) = labelled 10 (block ∷ [])
label_of (BlockCheckWrong block) = labelled 11 (block ∷ [])
label_of WindowBeyondLimit = labelled 12 []
label_of ListFull = labelled 13 []

-- What is wrong, in words.
unfoldable pub wording : Refusal → List ℕ
wording NoSuchClient = codes "no such client"
wording AlreadyOpen = codes "already open"
wording NumbersUsedUp = codes "opening numbers used up"
wording NoTransaction = codes "no transaction held"
wording (Yields client cell) = codes "yields to " ++ (decimal client ++ (codes " at " ++ decimal cell))
wording NoSuchCell = codes "no such cell"
wording TableFull = codes "table full"
wording LengthNotAdmitted = codes "length not admitted"
wording (BlockNumberWrong block) = codes "wrong number in block " ++ decimal block
wording (BlockCountWrong block) = codes "wrong count in block " ++ decimal block
wording (BlockCheckWrong block) = codes "wrong check in block " ++ decimal block
wording WindowBeyondLimit = codes "window beyond its limit"
wording ListFull = codes "list full"

-- The text of a refusal: its number, and then what is wrong.
unfoldable pub text_of : Refusal → List ℕ
text_of e = codes "refused " ++ (decimal (label_of e).number ++ (codes ": " ++ wording e))

-- What a call's reply says in words, where `out` is what a granted value says.
abbrev pub worded : {T : Type 0} → (T → Option (List ℕ)) → Result T Refusal → Option (List ℕ)
worded out (Ok x) = out x
worded out (Err e) = Some (text_of e)

-- A call's reply as the rules put it: granted with a value, or declined with a number and its values.
pub data Reply (X : Type 0) : Type 0 where
  granted : X → Reply X
  declined : ℕ → List ℕ → Reply X

-- A call's result as such a reply.
abbrev pub reply_of : {X : Type 0} → Result X Refusal → Reply X
reply_of (Ok x) = granted x
reply_of (Err e) = declined (label_of e).number (label_of e).values

-- The same, with what is made of the granted value.
abbrev pub reply_as : {X Y : Type 0} → (X → Y) → Result X Refusal → Reply Y
reply_as f (Ok x) = granted (f x)
reply_as f (Err e) = declined (label_of e).number (label_of e).values
