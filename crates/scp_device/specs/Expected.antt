-- What was expected at a bad word of a text, in words (this project's profile).
use Rattle.std.specs.Prelude.{ℕ, List, [], ◌++◌, Option, Some, None, codes}
use Rattle.std.specs.Fmt.{decimal}
use Rattle.scp_device.specs.declared.bad.Expected.{Expected}
use Rattle.scp_device.specs.declared.bad.Expected.TheVariants.{Ascii, NoMark, NoReturn, NoTab, OneSpace, ASlot, ANumber, Digits, ASet, ASaneSet, NoMore, AVerb, NodesFirst, NodesOnce, CapsFirst, SetsFirst, ACapacity, ACount, AThreshold, ANode, AnotherNode, AClosedLink, FewerLives, AnOpenLink, HowMany, AMessage, AValue, Values, AHash, AnyNode, ABallot, ACounter, Votes, Accepted, Prepared, Prime, Commit, ASignature, WithinLimits, BytesInDigits, BytesInBase64, AMessageWithin, AMessageFrom, AnEnvelope, EnvelopeBytes, OfTheSlot, TheNamedSet, AShortValue, ANodeNumber, SlotFirst, SlotOnce, ASlotLine, ASlotVerb, ALine, AHostVerb, APeer}

-- the words, up to the number that some end with
abbrev pub words_of : Expected → List ℕ
words_of Ascii = codes "ASCII"
words_of NoMark = codes "no byte order mark"
words_of NoReturn = codes "no carriage return: a line ends with a line feed alone"
words_of NoTab = codes "one space, no tab"
words_of OneSpace = codes "one space between words, none before the first and none behind the last"
words_of ASlot = codes "a slot, below 2^64"
words_of ANumber = codes "a number, below 2^64"
words_of Digits = codes "hexadecimal digits, or - for none"
words_of ASet = codes "a quorum set, as 2of(1,2,2of(3,4))"
words_of ASaneSet = codes "a sane quorum set"
words_of NoMore = codes "the end of the line"
words_of AVerb = codes "caps, nodes, set, open, close, send, propose, round, timer, tick, ask, settle, wait or report"
words_of NodesFirst = codes "nodes first"
words_of NodesOnce = codes "nodes only once"
words_of CapsFirst = codes "caps before nodes"
words_of SetsFirst = codes "set before the lines that act"
words_of ACapacity = codes "a capacity, 1 to 1024"
words_of ACount = codes "how many nodes, 1 to 8"
words_of (AThreshold most) = codes "a threshold, 1 to "
words_of (ANode most) = codes "a node, 1 to "
words_of (AnotherNode most) = codes "another node, 1 to "
words_of AClosedLink = codes "a link that isn't open"
words_of FewerLives = codes "a link that was opened less than 65535 times"
words_of AnOpenLink = codes "an open link"
words_of HowMany = codes "how many, 1 to 65535"
words_of AMessage = codes "a message, as record SLOT VALUE"
words_of AValue = codes "a value: ops(..), hex(..) or -, of at most 4096 bytes"
words_of Values = codes "values(VALUE,..)"
words_of AHash = codes "a hash: 64 digits or hash(SET)"
words_of AnyNode = codes "a node: 1 to 255, or 64 digits"
words_of ABallot = codes "ballot(N,VALUE)"
words_of ACounter = codes "a counter, below 2^32"
words_of Votes = codes "votes(VALUE,..)"
words_of Accepted = codes "accepted(VALUE,..)"
words_of Prepared = codes "prepared(N,VALUE), or - for none"
words_of Prime = codes "prime(N,VALUE), or - for none"
words_of Commit = codes "commit(N,VALUE)"
words_of ASignature = codes "sig(HEX), or the end of the line"
words_of WithinLimits = codes "a message or a quorum set within its limits"
words_of BytesInDigits = codes "the bytes of a message, in hexadecimal digits"
words_of BytesInBase64 = codes "the bytes of a message, in base64"
words_of AMessageWithin = codes "a message within its limits"
words_of (AMessageFrom place) = codes "a message; it is malformed at its byte "
words_of AnEnvelope = codes "an envelope: nominate, prepare, confirm or externalize, or hexadecimal digits"
words_of EnvelopeBytes = codes "an envelope"
words_of OfTheSlot = codes "an envelope of the script's slot"
words_of TheNamedSet = codes "the quorum set that the envelope names"
words_of AShortValue = codes "a value of at most 4096 bytes"
words_of ANodeNumber = codes "a node, 1 to 255"
words_of SlotFirst = codes "slot ME SLOT SET in the first line"
words_of SlotOnce = codes "slot only once, and first"
words_of ASlotLine = codes "slot ME SLOT SET"
words_of ASlotVerb = codes "propose, round, timer or envelope"
words_of ALine = codes "a line of a script"
words_of AHostVerb = codes "open, close, recv, propose, round, timer, tick, ask, again, state, report, stand or applied"
words_of APeer = codes "a peer"

-- the number that the words end with: how many nodes there are, the most that a threshold may be, or the place of a byte
abbrev pub number_of : Expected → Option ℕ
number_of (AThreshold most) = Some most
number_of (ANode most) = Some most
number_of (AnotherNode most) = Some most
number_of (AMessageFrom place) = Some place
number_of expected = None

-- a number in decimal digits, or nothing
abbrev pub number_text : Option ℕ → List ℕ
number_text (Some number) = decimal number
number_text None = []

-- all the words
abbrev pub expected_text : Expected → List ℕ
expected_text expected = words_of expected ++ number_text (number_of expected)
