mod SameAnswer
