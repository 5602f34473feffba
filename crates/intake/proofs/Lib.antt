mod First
